use Rattle.test_views.proofs.filters.filters_and_points.Given as goal

abbrev pub ghosts-filters_of_a_store : goal.ghosts-filters_of_a_store
ghosts-filters_of_a_store g a = record { name = a.blank.name; parts = a.blank.parts }
