use Rattle.test_views.proofs.listing.three_edges_have_their_degrees.Given as goal

abbrev pub ghosts-degrees_of_a_store : goal.ghosts-degrees_of_a_store
ghosts-degrees_of_a_store g a = record { name = a.blank.name; parts = a.blank.parts }
