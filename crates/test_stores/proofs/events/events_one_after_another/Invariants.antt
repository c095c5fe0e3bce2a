use Rattle.test_stores.proofs.events.events_one_after_another.Given as goal

abbrev pub ghosts-all_rows : goal.ghosts-all_rows
ghosts-all_rows g a = record { name = a.blank.name; parts = a.blank.parts }
