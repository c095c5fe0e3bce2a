use Rattle.test_stores.proofs.timelines.rows_of_a_timeline.Given as goal

abbrev pub ghosts-rows_are_counted : goal.ghosts-rows_are_counted
ghosts-rows_are_counted g a = record { name = a.blank.name; parts = a.blank.parts }
