use Rattle.test_views.proofs.tests.deleted_edge_under_windows.Given as goal

abbrev pub ghosts-windows_of_a_deleted_edge : goal.ghosts-windows_of_a_deleted_edge
ghosts-windows_of_a_deleted_edge g a = record { name = a.blank.name; parts = a.blank.parts }
