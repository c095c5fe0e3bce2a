use Rattle.test_views.proofs.walks.walks_and_labels.Given as goal

abbrev pub ghosts-walks_of_a_store : goal.ghosts-walks_of_a_store
ghosts-walks_of_a_store g a = record { name = a.blank.name; parts = a.blank.parts }
