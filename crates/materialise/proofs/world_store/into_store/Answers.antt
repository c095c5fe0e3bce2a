use Rattle.std.proofs.Common.{◌≡◌, Result, Ok, Err, sym, subst}
use Rattle.std.specs.Prelude.{IfOk, OnOk}
use Rattle.std.specs.Result.{result_and}
use Rattle.graph_store.specs.Contents.{base_of}
use Rattle.graph_model.specs.World.{World}
use Rattle.materialise.proofs.world_store.into_store.Goals as goal

-- what holds where the first of two results is one holds where both are
with_value : {T X E : Type 0} (r : Result T E) (x : X) (P : X → Type 0) → OnOk r (P x) → IfOk (result_and r (Ok x)) P
with_value (Ok u) x P h = h
with_value (Err e) x P h = tt

pub returns : goal.returns
returns g c =
    let w : World = record { model = c.args.model; bounds = c.args.bounds; events = c.args.list.now; types = c.args.types.now } in
    let made = c.new-store.ensures in
    let put : OnOk c.put_world.result (base_of c.put_world.new.store ≡ w) =
    subst (λ v. OnOk c.put_world.result (base_of c.put_world.new.store ≡ v))
    (λ k. record { model = made.model k; bounds = made.bounds k; events = c.args.list.now; types = c.args.types.now }) c.put_world.ensures in
    subst (λ r. IfOk r (λ store. base_of store ≡ w)) (sym c.and.ensures) (with_value c.put_world.result c.put_world.new.store (λ store. base_of store ≡ w) put)
