use Rattle.test_stores.proofs.histories.histories.Given as goal

abbrev pub ghosts-all_rows : goal.ghosts-all_rows
ghosts-all_rows g a = record { name = a.blank.name; parts = a.blank.parts }
