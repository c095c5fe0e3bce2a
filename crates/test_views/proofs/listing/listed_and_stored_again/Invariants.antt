use Rattle.test_views.proofs.listing.listed_and_stored_again.Given as goal

abbrev pub ghosts-lists_of_a_store : goal.ghosts-lists_of_a_store
ghosts-lists_of_a_store g a = record { name = a.blank.name; parts = a.blank.parts }
