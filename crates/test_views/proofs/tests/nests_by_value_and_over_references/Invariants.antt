use Rattle.test_views.proofs.tests.nests_by_value_and_over_references.Given as goal

abbrev pub ghosts-nests_of_two_layers : goal.ghosts-nests_of_two_layers
ghosts-nests_of_two_layers g a = record { name = a.blank.name; parts = a.blank.parts }
