-- The instruction that stores a run.
use Rattle.std.proofs.Common.{◌≡◌, ℕ, ◌+◌, ◌^◌, ◌<◌, ◌≤◌, List, [], ◌∷◌, true, refl, ap, ◌∙◌, sym, subst, arith}
use Rattle.std.specs.Prelude.{Option, Some, None}
use Rattle.rv_insn.specs.declared.instructions.Insn.TheVariants.{Vector}
use Rattle.rv_insn.specs.declared.vector_instructions.VectorInsn.TheVariants as v
use Rattle.rv_insn.specs.declared.vector_instructions.Addressing.{Addressing}
use Rattle.rv_insn.specs.declared.vector_operations.ElementWidth.TheVariants.{Bits32}
use Rattle.lanes.specs.Words as lanes
use Rattle.memory.specs.Access.{Word, touched}
use Rattle.halide_pipeline.specs.Pixel.{Planes}
use Rattle.loop_ir.specs.AtOnce.{Effect}
use Rattle.multi_hart.specs.Run.{is_in}
use Rattle.multi_hart_laws.specs.Alone.{World}
use Rattle.multi_hart_laws.specs.Paths.{Path, lane, vl_number}
use Rattle.multi_hart_laws.specs.LaneMemory.{accesses_to, offset_at, stored_lanes, AllWritable, OffsetsFit}
use Rattle.multi_hart_laws.proofs.LaneStores.{stores, stores-write}
use Rattle.task_code_scalar.specs.Layout.{func_point, address_of, IsOf}
use Rattle.task_code_scalar.specs.Doing.{Setting, IsSetting, AreRun, HoldsFuncs}
use Rattle.task_code_registers.proofs.Going.{Does}
use Rattle.task_code_lanes.specs.declared.groups.LaneGroup.{LaneGroup}
use Rattle.task_code_lanes.specs.Groups.{registers, slot}
use Rattle.task_code_lanes.specs.Leaving.{HasLanes}
use Rattle.task_code_lanes.proofs.Effects.{HitBy, effect_hits, laid}
use Rattle.task_code_lanes.proofs.Slots.{slot-at}
use Rattle.task_code_lanes.proofs.StoredRows.{lanes-same, all-writable, row-holds, row-touched}

abbrev of_some : Effect → Option Effect → Effect
of_some other None = other
of_some other (Some own) = own

module _ (setting : Setting) (good : IsSetting setting) (keeps_it : ℕ → Type 0) (group : LaneGroup) (func n : ℕ) (few : n ≤ 16) (x y pixel : ℕ → ℕ)
    (can : (k : ℕ) → k < n → setting.written func (x k) (y k) ≡ true) (small : (k : ℕ) → k < n → pixel k < 2 ^ 32)
    (are_run : setting.in_runs func ≡ true → AreRun setting n func x y) where
  abbrev w : World
  w = setting.world

  abbrev pub spots : ℕ → ℕ
  spots k = address_of w setting.places (func_point func (x k) (y k))

  abbrev stored_at : ℕ → Effect
  stored_at k = record { func = func; x = x k; y = y k; pixel = pixel k }

  abbrev pub pixels_at : ℕ → Option Effect
  pixels_at k = Some (stored_at k)

  hit-row : (other i j byte : ℕ) → HitBy pixels_at n other i j → IsOf w setting.places other i j byte → is_in byte (touched (accesses_to Word n spots)) ≡ true
  hit-row other i j byte hit of =
      let r = hit.lane in
      let e : stored_at r ≡ hit.stored = ap (of_some hit.stored) hit.is in
      let ef = ap (λ (a : Effect). a.func) e ∙ hit.func_is in
      let ex = ap (λ (a : Effect). a.x) e ∙ hit.x_is in
      let ey = ap (λ (a : Effect). a.y) e ∙ hit.y_is in
      row-touched setting good func n few x y pixel can small r byte hit.below
      (subst (λ a. IsOf w setting.places a (x r) (y r) byte) (sym ef) (subst (λ a. IsOf w setting.places other a (y r) byte) (sym ex)
      (subst (λ a. IsOf w setting.places other i a byte) (sym ey) of)))

  -- all lanes are stored, wherever they lie
  pub row-saved : (addressing : Addressing) (b : ℕ) (f : ℕ → ℕ) (memory : List ℕ) (funcs : Planes) → b < 32 → OffsetsFit (registers group) addressing
      → HoldsFuncs setting memory funcs → HasLanes group n f
      → ((k : ℕ) → k < n → lanes.add 32 (f b) (offset_at f addressing k) ≡ spots k) → ((k : ℕ) → k < n → f (lane (slot group 0) k) ≡ pixel k)
      → Does setting (Vector (v.StoreElements Bits32 (slot group 0) b addressing true) ∷ []) 1 f memory keeps_it (laid setting.points pixels_at n funcs)
      (effect_hits pixels_at n)
  row-saved addressing b f memory funcs lb fit holds has where-is values =
      let u = slot group 0 in
      let is-group = (slot-at group 0 (omega arith)).is_group in
      let count = has.count in
      let writable : AllWritable w Word (f vl_number) spots =
      subst (λ k. AllWritable w Word k spots) (sym count) (all-writable setting good func n few x y pixel can small are_run) in
      let places-are : (k : ℕ) → k < f vl_number → lanes.add 32 (f b) (offset_at f addressing k) ≡ spots k = (λ k l. where-is k (omega (arith, l, count))) in
      let left-is : stored_lanes memory Word (f vl_number) spots (λ k. f (lane u k)) ≡ stored_lanes memory Word n spots pixel =
      ap (λ k. stored_lanes memory Word k spots (λ k. f (lane u k))) count ∙ lanes-same memory n spots (λ k. f (lane u k)) pixel values in
      let line = stores w f memory holds.size (registers group) has.configured addressing u b spots is-group lb fit places-are writable in
      let row = row-holds setting good func n few x y pixel can small n (omega arith) memory funcs holds in
      record {
        after = f;
        left = stored_lanes memory Word n spots pixel;
        path = λ at s. subst (λ m. Path w at (at + 4) 1 f memory f m) left-is (line at s);
        keeps = λ q kept. refl;
        holds = row.holds;
        elsewhere = row.elsewhere;
        are_bytes = row.are_bytes;
        writes = λ other i j byte at hit of s.
            stores-write w f memory holds.size (registers group) has.configured addressing u b spots is-group lb fit places-are writable at byte
            s.0 (subst (λ k. is_in byte (touched (accesses_to Word k spots)) ≡ true) (sym count) (hit-row other i j byte hit of));
      }
