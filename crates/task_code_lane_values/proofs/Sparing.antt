-- Code that sets the scratch group's lanes.
use Rattle.std.proofs.Common.{◌≡◌, ℕ, ◌*◌, ◌^◌, ◌<◌, ◌≤◌, List, length, ap, ◌∙◌, sym, subst, arith, inl, inr}
use Rattle.std.specs.Prelude.{◌⊎◌, ◌≢◌}
use Rattle.rv_insn.specs.declared.instructions.Insn.{Insn}
use Rattle.multi_hart_laws.specs.Alone.{World}
use Rattle.multi_hart_laws.specs.Paths.{Line, lane, bit, vl_number}
use Rattle.multi_hart_laws.specs.FirstGroup.{held, write_group}
use Rattle.multi_hart_laws.proofs.FirstGroup.{groups-hold}
use Rattle.task_code_lanes.specs.declared.groups.LaneGroup.{LaneGroup}
use Rattle.task_code_lanes.specs.Groups.{registers, slot, spare}
use Rattle.task_code_lanes.specs.Leaving.{HasLanes}
use Rattle.task_code_lanes.proofs.Slots.{SlotLies, spare-keeps}
use Rattle.task_code_lane_values.specs.Leaving.{IsUnder}

-- what stays in a slot's code: numbers below the vector registers, and the groups below
pub under-sorts : (group : LaneGroup) (k q : ℕ) → IsUnder group k q → (q < 34) ⊎ ((lane (slot group 0) 0 ≤ q) × (q < lane (slot group k) 0))
under-sorts group k q (inl h) = inl (let a = h.0 in omega (arith, a))
under-sorts group k q (inr (inl o)) = inl (omega (arith, o))
under-sorts group k q (inr (inr h)) = inr h

-- and no scratch register
pub under-apart : (group : LaneGroup) (k q : ℕ) → IsUnder group k q → (q ≢ 13) × (q ≢ 14)
under-apart group k q (inl h) = let a = h.1 in ((λ e. omega (arith, a, e)), (λ e. omega (arith, a, e)))
under-apart group k q (inr (inl o)) = ((λ e. omega (arith, o, e)), (λ e. omega (arith, o, e)))
under-apart group k q (inr (inr h)) = let a = h.0 in ((λ e. omega (arith, a, e)), (λ e. omega (arith, a, e)))

module _ (w : World) (m : List ℕ) (l : length m ≡ w.size) (group : LaneGroup) (n k : ℕ) (lies : SlotLies group k) where
  pub record Spared (is : List Insn) (f x : ℕ → ℕ) : Type 0 where
    pub after : ℕ → ℕ
    pub line : Line w is f m after m
    pub value : (i : ℕ) → i < n → held after (spare group) i ≡ x i
    pub keeps : (q : ℕ) → (q < 34) ⊎ ((lane (slot group 0) 0 ≤ q) × (q < bit 0)) → after q ≡ f q

  pub spared : {is : List Insn} {f : ℕ → ℕ} (x new : ℕ → ℕ) → HasLanes group n f → n ≤ 4 * registers group → Line w is f m (write_group f (spare group)
      (f vl_number) new) m
      → ((i : ℕ) → i < n → new i ≡ x i) → ((i : ℕ) → i < n → x i < 2 ^ 32) → Spared is f x
  spared {is} {f} x new has few line same small =
      let e = has.count in
      let most = lies.most in
      record {
        after = write_group f (spare group) (f vl_number) new;
        line = line;
        value = λ i b. groups-hold f (spare group) (f vl_number) new i (omega (arith, e, few, most)) (omega (arith, e, b)) (subst (λ z. z < 2 ^ 32) (sym
            (same i b)) (small i b)) ∙ same i b;
        keeps = λ q o. ap (λ z. write_group f (spare group) z new q) e ∙ spare-keeps group f n new q few o;
      }
