-- How a view joins merged views.
use Rattle.std.proofs.Common.{◌≡◌, ℕ, ℤ, Bool, true, false, cond, ◌&&◌, int_le, int_lt, List, [], ◌∷◌, ◌++◌, map, Option, Some, None, refl, sym, ◌∙◌, ap, arith, append_assoc}
use Rattle.std.specs.Prelude.{is_some, Result, Ok, Err, OnOk}
use Rattle.std.specs.Int.{int_max, int_min}
use Rattle.std.specs.List.{list_all}
use Rattle.std.proofs.lemmas.List.{map-append}
use Rattle.std.proofs.lemmas.List.Folds.{list_all-append}
use Rattle.graph_model.specs.Interval.{earliest, latest}
use Rattle.graph_model.specs.Searches.{ViewKind, IsWindow, IsNodeFilter, IsOtherFilter, IsNameView, Searches, searches_with, searches_over, searches, run_with_window, fused_over, fused_searches}
use Rattle.graph_model.specs.World.{World}
use Rattle.world_laws.proofs.Fused.{searches_over-push}
use Rattle.graph_store.specs.Contents.{Contents}
use Rattle.view_trait.specs.declared.ready_ops.ReadyOp.{ReadyOp}
use Rattle.view_trait.specs.declared.ready_ops.ReadyOp.TheVariants.{Window}
use Rattle.view_trait.specs.Meaning.{IsShown}
use Rattle.view_trait.specs.Ready.{ready_view, ready_apply, ready_kind, in_range}
use Rattle.view_trait.proofs.ReadyWorlds.{ready_apply-push}
use Rattle.stack_view.specs.Shown.{IsShown-after}
use Rattle.fused_view.specs.declared.run.Run.{Run}
use Rattle.fused_view.specs.Fused.{IsFused}
use Rattle.fused_view.specs.Joined.{IsJoined, StandsFor, views_so_far}
use Rattle.fused_view.specs.Runs.{narrowed, run_views, window_views, layer_views, kept_views, dropped_views}
use Rattle.fused_view.proofs.Merged.{ready_apply-append, run_shows, run_world, window_more}

append_none : {X : Type 0} (xs : List X) → xs ++ [] ≡ xs
append_none [] = refl
append_none (x ∷ xs) = ap (λ ys. x ∷ ys) (append_none xs)

-- ---- what merged views and a run show

so_far_shows : (c : Contents) (merged : List ReadyOp) (run : Run) (w : World) → ready_apply c (views_so_far merged run) w ≡ run_world c run (ready_apply c merged w)
so_far_shows c merged run w = ready_apply-append c merged (run_views run) w ∙ run_shows c run (ready_apply c merged w)

joined_world : (c : Contents) (merged : List ReadyOp) (run after : Run) (op : ReadyOp) (w : World)
    → run_world c after (ready_apply c merged w) ≡ ready_view c (run_world c run (ready_apply c merged w)) op
    → ready_apply c (views_so_far merged after) w ≡ ready_view c (ready_apply c (views_so_far merged run) w) op
joined_world c merged run after op w h =
    so_far_shows c merged after w ∙ (h ∙ sym (ap (λ v. ready_view c v op) (so_far_shows c merged run w)))

-- ---- what they cost

-- searches, and those of a window where there is one
abbrev windowed : Bool → Searches → Searches
windowed true s = searches_with s IsWindow
windowed false s = s

searches_append : (s : Searches) (ks js : List ViewKind) → searches_over s (ks ++ js) ≡ searches_over (searches_over s ks) js
searches_append s [] js = refl
searches_append s (k ∷ ks) js = searches_append (searches_with s k) ks js

run_searches : (s : Searches) (run : Run) → searches_over s (map ready_kind (run_views run)) ≡ windowed (is_some run.window) s
run_searches s run = of run.window run.layers run.kept run.dropped
  where
    of : (window : Option (ℤ × ℤ)) (layers : Option ℕ) (kept dropped : Option (List ℕ))
        → searches_over s (map ready_kind (window_views window ++ (layer_views layers ++ (kept_views kept ++ dropped_views dropped)))) ≡ windowed (is_some window) s
    of None None None None = refl
    of None None None (Some d) = refl
    of None None (Some k) None = refl
    of None None (Some k) (Some d) = refl
    of None (Some l) None None = refl
    of None (Some l) None (Some d) = refl
    of None (Some l) (Some k) None = refl
    of None (Some l) (Some k) (Some d) = refl
    of (Some e) None None None = refl
    of (Some e) None None (Some d) = refl
    of (Some e) None (Some k) None = refl
    of (Some e) None (Some k) (Some d) = refl
    of (Some e) (Some l) None None = refl
    of (Some e) (Some l) None (Some d) = refl
    of (Some e) (Some l) (Some k) None = refl
    of (Some e) (Some l) (Some k) (Some d) = refl

so_far_searches : (merged : List ReadyOp) (run : Run) → searches (map ready_kind (views_so_far merged run)) ≡ windowed (is_some run.window) (searches (map ready_kind merged))
so_far_searches merged run =
    ap searches (map-append ready_kind merged (run_views run))
    ∙ (searches_append (record { nodes = 0; edges = 0 }) (map ready_kind merged) (map ready_kind (run_views run))
    ∙ run_searches (searches (map ready_kind merged)) run)

window_cost : (b : Bool) (s : Searches) (ks : List ViewKind) → fused_over b (windowed b s) (IsWindow ∷ ks) ≡ fused_over true (windowed true s) ks
window_cost true s ks = refl
window_cost false s ks = refl

pub window_searches : (merged : List ReadyOp) (run : Run) (ends : ℤ × ℤ) (ks : List ViewKind)
    → fused_over (is_some run.window) (searches (map ready_kind (views_so_far merged run))) (IsWindow ∷ ks)
    ≡ fused_over true (searches (map ready_kind (views_so_far merged (record run { window = Some ends })))) ks
window_searches merged run ends ks =
    ap (λ s. fused_over (is_some run.window) s (IsWindow ∷ ks)) (so_far_searches merged run)
    ∙ (window_cost (is_some run.window) (searches (map ready_kind merged)) ks
    ∙ sym (ap (λ s. fused_over true s ks) (so_far_searches merged (record run { window = Some ends }))))

pub name_searches : (merged : List ReadyOp) (run after : Run) (ks : List ViewKind) → after.window ≡ run.window
    → fused_over (is_some run.window) (searches (map ready_kind (views_so_far merged run))) (IsNameView ∷ ks)
    ≡ fused_over (is_some after.window) (searches (map ready_kind (views_so_far merged after))) ks
name_searches merged run after ks same =
    let all = searches (map ready_kind merged) in
    ap (λ s. fused_over (is_some run.window) s ks) (so_far_searches merged run)
    ∙ (sym (ap (λ o. fused_over (is_some o) (windowed (is_some o) all) ks) same)
    ∙ sym (ap (λ s. fused_over (is_some after.window) s ks) (so_far_searches merged after)))

-- ---- the moments of their windows

run_range : (run : Run) → list_all in_range (run_views run) ≡ list_all in_range (window_views run.window)
run_range run = of run.window run.layers run.kept run.dropped
  where
    of : (window : Option (ℤ × ℤ)) (layers : Option ℕ) (kept dropped : Option (List ℕ))
        → list_all in_range (window_views window ++ (layer_views layers ++ (kept_views kept ++ dropped_views dropped))) ≡ list_all in_range (window_views window)
    of None None None None = refl
    of None None None (Some d) = refl
    of None None (Some k) None = refl
    of None None (Some k) (Some d) = refl
    of None (Some l) None None = refl
    of None (Some l) None (Some d) = refl
    of None (Some l) (Some k) None = refl
    of None (Some l) (Some k) (Some d) = refl
    of (Some e) None None None = refl
    of (Some e) None None (Some d) = refl
    of (Some e) None (Some k) None = refl
    of (Some e) None (Some k) (Some d) = refl
    of (Some e) (Some l) None None = refl
    of (Some e) (Some l) None (Some d) = refl
    of (Some e) (Some l) (Some k) None = refl
    of (Some e) (Some l) (Some k) (Some d) = refl

pub so_far_range : (merged : List ReadyOp) (run : Run) → list_all in_range (views_so_far merged run) ≡ (list_all in_range merged && list_all in_range (window_views run.window))
so_far_range merged run = list_all-append in_range merged (run_views run) ∙ ap (λ b. list_all in_range merged && b) (run_range run)

and_first : (a b : Bool) → (a && b) ≡ true → a ≡ true
and_first true b h = refl
and_first false b h = h

and_last : (a b : Bool) → (a && b) ≡ true → b ≡ true
and_last true b h = h
and_last false b h = cc

and_both : (a b : Bool) → a ≡ true → b ≡ true → (a && b) ≡ true
and_both true b h k = k
and_both false b h k = h

abbrev is_bound : ℤ → Bool
is_bound t = int_le earliest t && int_le t latest

bound_of : (b : Bool) (s t : ℤ) → is_bound s ≡ true → is_bound t ≡ true → is_bound (cond b s t) ≡ true
bound_of true s t h k = h
bound_of false s t h k = k

narrowed_range : (o : Option (ℤ × ℤ)) (a b : ℤ) → list_all in_range (window_views o) ≡ true → in_range (Window a b) ≡ true → list_all in_range (window_views (Some (narrowed o (a, b)))) ≡ true
narrowed_range None a b h k = and_both (in_range (Window a b)) true k refl
narrowed_range (Some ends) a b h k =
    let old : (is_bound ends.0 && is_bound ends.1) ≡ true = and_first (in_range (Window ends.0 ends.1)) true h in
    let from = bound_of (int_lt a ends.0) ends.0 a (and_first (is_bound ends.0) (is_bound ends.1) old) (and_first (is_bound a) (is_bound b) k) in
    let to : is_bound (int_min ends.1 b) ≡ true = least ends.1 b (and_last (is_bound ends.0) (is_bound ends.1) old) (and_last (is_bound a) (is_bound b) k) in
    and_both (is_bound (int_max ends.0 a) && is_bound (int_min ends.1 b)) true (and_both (is_bound (int_max ends.0 a)) (is_bound (int_min ends.1 b)) from to) refl
  where
    least : (s t : ℤ) → is_bound s ≡ true → is_bound t ≡ true → is_bound (int_min s t) ≡ true
    least s t h k = bound_of (int_lt t s) t s k h

-- ---- a filter by content ends a run

filter_views : (merged : List ReadyOp) (op : ReadyOp) → views_so_far (merged ++ op ∷ []) (record { window = None; layers = None; kept = None; dropped = None }) ≡ merged ++ op ∷ []
filter_views merged op = append_none (merged ++ op ∷ [])

pub filter_joins : (merged : List ReadyOp) (run : Run) (op : ReadyOp) (more : List ReadyOp) (after : Run)
    → more ≡ (merged ++ run_views run) ++ op ∷ [] → after ≡ record { window = None; layers = None; kept = None; dropped = None }
    → ((b : Bool) (s : Searches) (ks : List ViewKind) → fused_over b s (ready_kind op ∷ ks) ≡ fused_over false (searches_with s (ready_kind op)) ks)
    → IsJoined merged run op more after
filter_joins merged run op more after is ends cuts =
    let views : views_so_far more after ≡ (merged ++ run_views run) ++ op ∷ [] =
    ap (λ ops. views_so_far ops after) is ∙ (ap (views_so_far ((merged ++ run_views run) ++ op ∷ [])) ends ∙ filter_views (merged ++ run_views run) op) in
    record {
      world = λ c w h. ap (λ ops. ready_apply c ops w) views ∙ ready_apply-push c (merged ++ run_views run) op w;
      in_range = λ old own. ap (list_all in_range) views ∙ (list_all-append in_range (merged ++ run_views run) (op ∷ []) ∙ both (list_all in_range (merged ++ run_views run)) (in_range op) old own);
      searches = λ ks.
          cuts (is_some run.window) (searches (map ready_kind (views_so_far merged run))) ks
          ∙ (sym (ap (λ s. fused_over false s ks) (ap (λ ops. searches (map ready_kind ops)) views
          ∙ (ap searches (map-append ready_kind (merged ++ run_views run) (op ∷ []))
          ∙ searches_over-push (record { nodes = 0; edges = 0 }) (map ready_kind (merged ++ run_views run)) (ready_kind op))))
          ∙ sym (ap (λ (r : Run). fused_over (is_some r.window) (searches (map ready_kind (views_so_far more after))) ks) ends));
    }
  where
    both : (a b : Bool) → a ≡ true → b ≡ true → (a && (b && true)) ≡ true
    both true true h k = refl
    both true false h k = cc
    both false b h k = cc

-- a filter begins a run without a window
abbrev pub Cuts : ViewKind → Type 0
Cuts k = (b : Bool) (s : Searches) (ks : List ViewKind) → fused_over b s (k ∷ ks) ≡ fused_over false (searches_with s k) ks

pub other_cuts : (k : ViewKind) → k ≡ IsOtherFilter → Cuts k
other_cuts IsOtherFilter h = λ b s ks. refl
other_cuts IsWindow h = cc
other_cuts IsNodeFilter h = cc
other_cuts IsNameView h = cc

pub node_cuts : (k : ViewKind) → k ≡ IsNodeFilter → Cuts k
node_cuts IsNodeFilter h = λ b s ks. refl
node_cuts IsWindow h = cc
node_cuts IsOtherFilter h = cc
node_cuts IsNameView h = cc

pub filter_joins_on_ok : {T E : Type 0} (r : Result T E) (merged : List ReadyOp) (run : Run) (op : ReadyOp) (more : List ReadyOp) (after : Run)
    → Cuts (ready_kind op)
    → OnOk r (more ≡ (merged ++ run_views run) ++ op ∷ []) → OnOk r (after ≡ record { window = None; layers = None; kept = None; dropped = None })
    → OnOk r (IsJoined merged run op more after)
filter_joins_on_ok (Ok x) merged run op more after cuts is ends = filter_joins merged run op more after is ends cuts
filter_joins_on_ok (Err e) merged run op more after cuts is ends = is

-- a view by names joins a run
pub name_joins : (merged : List ReadyOp) (run : Run) (op : ReadyOp) (more : List ReadyOp) (after : Run)
    → more ≡ merged → after.window ≡ run.window → ready_kind op ≡ IsNameView
    → ((c : Contents) (w : World) → IsShown c w → run_world c after w ≡ ready_view c (run_world c run w) op)
    → IsJoined merged run op more after
name_joins merged run op more after is same kind shows = record {
  world = λ c w h. ap (λ ops. ready_apply c (views_so_far ops after) w) is ∙ joined_world c merged run after op w (shows c (ready_apply c merged w) (IsShown-after c merged w h));
  in_range = λ old own.
      ap (λ ops. list_all in_range (views_so_far ops after)) is
      ∙ (so_far_range merged after ∙ (ap (λ o. list_all in_range merged && list_all in_range (window_views o)) same
      ∙ (sym (so_far_range merged run) ∙ old)));
  searches = λ ks.
      ap (λ k. fused_over (is_some run.window) (searches (map ready_kind (views_so_far merged run))) (k ∷ ks)) kind
      ∙ (name_searches merged run after ks same
      ∙ sym (ap (λ ops. fused_over (is_some after.window) (searches (map ready_kind (views_so_far ops after))) ks) is));
}

-- a window joins a run
pub window_joins : (merged : List ReadyOp) (run : Run) (a b : ℤ) (op : ReadyOp) (ends : ℤ × ℤ)
    → op ≡ Window a b → ends ≡ narrowed run.window (a, b)
    → IsJoined merged run op merged (record { window = Some ends; layers = run.layers; kept = run.kept; dropped = run.dropped })
window_joins merged run a b op ends is same =
    let after : Run = record { window = Some ends; layers = run.layers; kept = run.kept; dropped = run.dropped } in
    let narrow : Run = record { window = Some (narrowed run.window (a, b)); layers = run.layers; kept = run.kept; dropped = run.dropped } in
    let to_narrow : after ≡ narrow = ap (λ (e : ℤ × ℤ). record { window = Some e; layers = run.layers; kept = run.kept; dropped = run.dropped }) same in
    record {
      world = λ c w h. joined_world c merged run after op w
          (ap (λ (r : Run). run_world c r (ready_apply c merged w)) to_narrow
          ∙ (window_more c run a b (ready_apply c merged w) (IsShown-after c merged w h)
          ∙ sym (ap (ready_view c (run_world c run (ready_apply c merged w))) is)));
      in_range = λ old own.
          let parts = sym (so_far_range merged run) ∙ old in
          so_far_range merged after
          ∙ and_both (list_all in_range merged) (list_all in_range (window_views (Some ends)))
          (and_first (list_all in_range merged) (list_all in_range (window_views run.window)) parts)
          (ap (λ e. list_all in_range (window_views (Some e))) same
          ∙ narrowed_range run.window a b (and_last (list_all in_range merged) (list_all in_range (window_views run.window)) parts) (sym (ap in_range is) ∙ own));
      searches = λ ks.
          ap (λ o. fused_over (is_some run.window) (searches (map ready_kind (views_so_far merged run))) (ready_kind o ∷ ks)) is
          ∙ window_searches merged run ends ks;
    }

-- ---- all views of a list

-- one more view of a list
pub stands_more : (given merged : List ReadyOp) (run : Run) (op : ReadyOp) (more : List ReadyOp) (after : Run)
    → StandsFor given merged run → IsJoined merged run op more after → in_range op ≡ true → StandsFor (given ++ op ∷ []) more after
stands_more given merged run op more after h joined own = record {
  world = λ c w shown. joined.world c w shown ∙ (ap (λ v. ready_view c v op) (h.world c w shown) ∙ sym (ready_apply-push c given op w));
  in_range = joined.in_range h.in_range own;
  searches = λ ks.
      ap (λ js. fused_searches (js ++ ks)) (map-append ready_kind given (op ∷ []))
      ∙ (ap fused_searches (append_assoc (map ready_kind given) (ready_kind op ∷ []) ks)
      ∙ (h.searches (ready_kind op ∷ ks) ∙ joined.searches ks));
}

pub fused_all : (given merged views : List ReadyOp) (run : Run) → StandsFor given merged run → views ≡ merged ++ run_views run → IsFused given views
fused_all given merged views run h is = record {
  world = λ c w shown. ap (λ ops. ready_apply c ops w) is ∙ h.world c w shown;
  in_range = ap (list_all in_range) is ∙ h.in_range;
  searches = ap (λ ops. searches (map ready_kind ops)) is ∙ (sym (h.searches []) ∙ ap fused_searches (append_none (map ready_kind given)));
}
