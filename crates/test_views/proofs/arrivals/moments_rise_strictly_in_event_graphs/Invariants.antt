use Rattle.test_views.proofs.arrivals.moments_rise_strictly_in_event_graphs.Given as goal

abbrev pub ghosts-arrivals_of_a_store : goal.ghosts-arrivals_of_a_store
ghosts-arrivals_of_a_store g a = record { name = a.blank.name; parts = a.blank.parts }
