use Rattle.test_views.proofs.windows_in_a_row.windows_show_what_lies_in_them.Given as goal

abbrev pub ghosts-windows_in_a_row : goal.ghosts-windows_in_a_row
ghosts-windows_in_a_row g a = record { name = a.blank.name; parts = a.blank.parts }
