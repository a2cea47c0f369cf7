use Rattle.std.proofs.Common.{◌≡◌, ◌∙◌, ◌<◌, ◌+◌, ◌-◌, List, ℕ, arith, length, refl, replicate, subst, sym}
use Rattle.std.specs.Prelude.{◌≢◌}
use Rattle.std.specs.Vec.{with_items}
use Rattle.std.proofs.lemmas.List.{with_items_is}
use Rattle.hart_core.specs.declared.harts.Status.TheVariants.{Running}
use Rattle.multi_hart.specs.Run.{hart_at, run}
use Rattle.multi_hart.proofs.TurnByTurn.{shape-then}
use Rattle.run_reports.specs.declared.profiles.HartProfile.{HartProfile}
use Rattle.run_reports.specs.inner.Counting.{AreAdded, HaveRoom, IsAdded}
use Rattle.run_reports.proofs.Adding.{added_none, idle_added, left_room, run_added, stretch_added, stretch_made, whole}
use Rattle.run_reports.proofs.profiles.count_run.Goals as goal

pub turns-init : goal.turns-init
turns-init c = record {
  few = omega arith;
  shape = record { text = refl; bytes = refl; harts = refl };
  state = refl;
  added = added_none c.args.hart c.args.machine.now c.args.profile.now;
}

pub overflow_add-profile : goal.overflow_add-profile
overflow_add-profile c =
    let room = left_room c.args.machine.now c.turns.machine c.args.hart c.turns.made c.args.count c.args.profile.now c.turns.profile c.turns.invariant
    c.requires.room in
    let idle = room.idle in
    omega (arith, idle)

pub returns-in_default : goal.returns-in_default
returns-in_default c =
    let start = c.args.machine.now in
    let now = c.turns.machine in
    let hart = c.args.hart in
    let count = c.args.count in
    let made = c.turns.made in
    let inv = c.turns.invariant in
    let below : hart < length now.harts = omega (arith, c.requires.there, inv.shape.harts) in
    let rests : (hart_at now hart).status ≢ Running = λ is. c.in_default.not-Running (c.status.ensures ∙ is) in
    let all = whole made count inv.few in
    let old = c.turns.profile in
    let new : HartProfile = record { counts = old.counts; made = old.made; idle = old.idle + (count - made) } in
    record {
      state = subst (λ (n : ℕ). c.run_same.new.self ≡ run start (replicate n hart)) all
          (stretch_made start now c.run_same.new.self hart made (count - made) inv.state c.run_same.ensures.state);
      added = subst (λ (n : ℕ). IsAdded hart start (replicate n hart) c.args.profile.now new) all
          (stretch_added start now hart made (count - made) c.args.profile.now old new inv.state inv.added
          (idle_added hart (count - made) now old new below rests refl refl refl));
    }

pub count_some-more-requires-clause-room : goal.count_some-more-requires-clause-room
count_some-more-requires-clause-room c =
    let room = left_room c.args.machine.now c.turns.machine c.args.hart c.turns.made c.args.count c.args.profile.now c.turns.profile c.turns.invariant
    c.requires.room in
    subst (λ (xs : List ℕ). HaveRoom xs (c.args.count - c.turns.made)) (sym c.deref_mut.ensures.value) room.counts

pub overflow_add-profile-in-turns : goal.overflow_add-profile-in-turns
overflow_add-profile-in-turns c =
    let room = left_room c.args.machine.now c.turns.machine c.args.hart c.turns.made c.args.count c.args.profile.now c.turns.profile c.turns.invariant
    c.requires.room in
    let made = room.made in
    let few = c.count_some-more.ensures.within in
    omega (arith, made, few)

pub turns-preserved : goal.turns-preserved
turns-preserved c =
    let start = c.args.machine.now in
    let now = c.turns.machine in
    let hart = c.args.hart in
    let made = c.turns.made in
    let more = c.count_some-more.result in
    let inv = c.turns.invariant in
    let some = c.count_some-more.ensures in
    let within = some.within in
    let few = inv.few in
    let old = c.turns.profile in
    let new : HartProfile = record { counts = with_items old.counts c.count_some-more.new.counts; made = old.made + more; idle = old.idle } in
    let more_added = subst (λ (xs : List ℕ). AreAdded hart now (replicate more hart) xs c.count_some-more.new.counts) c.deref_mut.ensures.value some.added in
    let put : new.counts.items ≡ c.count_some-more.new.counts =
    with_items_is old.counts c.count_some-more.new.counts (more_added.as_many ∙ sym old.counts.ok.0) in
    record {
      few = omega (arith, within, few);
      shape = shape-then start now c.count_some-more.new.machine inv.shape some.shape;
      state = stretch_made start now c.count_some-more.new.machine hart made more inv.state some.state;
      added = stretch_added start now hart made more c.args.profile.now old new inv.state inv.added
          (run_added hart more now old new some.runs
          (subst (AreAdded hart now (replicate more hart) old.counts.items) (sym put) more_added) refl refl);
    }
