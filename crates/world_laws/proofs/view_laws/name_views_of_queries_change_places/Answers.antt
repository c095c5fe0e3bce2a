use Rattle.world_laws.proofs.view_laws.name_views_of_queries_change_places.Goals as goal
use Rattle.world_laws.proofs.NameViews.{name_view_and_window, name_views_both}

pub returns-clause-window : goal.returns-clause-window
returns-clause-window c = name_view_and_window

pub returns-clause-each_other : goal.returns-clause-each_other
returns-clause-each_other c = name_views_both
