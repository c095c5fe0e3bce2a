use Rattle.test_views.proofs.arrivals.journeys_wait_on_lasting_edges.Given as goal

abbrev pub ghosts-arrivals_of_a_store : goal.ghosts-arrivals_of_a_store
ghosts-arrivals_of_a_store g a = record { name = a.blank.name; parts = a.blank.parts }
