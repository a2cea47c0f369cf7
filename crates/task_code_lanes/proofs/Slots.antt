-- Groups of vector registers: where they lie.
use Rattle.std.proofs.Common.{◌≡◌, ℕ, ◌+◌, ◌*◌, ◌<◌, ◌≤◌, arith, inl, inr, refl}
use Rattle.std.specs.Prelude.{◌⊎◌}
use Rattle.multi_hart_laws.specs.Paths.{IsGroup, lane, bit}
use Rattle.multi_hart_laws.specs.FirstGroup.{IsAnyGroup, write_group}
use Rattle.multi_hart_laws.proofs.LaneRows.{lanes-below, lanes-above}
use Rattle.multi_hart_laws.proofs.FirstGroup.{first-lanes-stay}
use Rattle.task_code_lanes.specs.declared.groups.LaneGroup.{LaneGroup}
use Rattle.task_code_lanes.specs.declared.groups.LaneGroup.TheVariants as groups
use Rattle.task_code_lanes.specs.Groups.{registers, slots, slot, spare}

-- where a slot lies that there is
pub record SlotLies (group : LaneGroup) (k : ℕ) : Type 0 where
  pub low : slot group 0 ≤ slot group k
  pub high : slot group k + registers group ≤ 32
  pub next : slot group k + registers group ≡ slot group (k + 1)
  pub few : 1 ≤ registers group
  pub most : registers group ≤ 4
  pub is_group : IsGroup (registers group) (slot group k)

pub slot-lies : (group : LaneGroup) (k : ℕ) → k < slots group → SlotLies group k
slot-lies groups.One k l = record {
  low = omega arith;
  high = omega (arith, l);
  next = omega arith;
  few = omega arith;
  most = omega arith;
  is_group =
      record { above_mask = omega arith; fits = omega (arith, l); placed = omega arith };
}
slot-lies groups.Two k l = record {
  low = omega arith;
  high = omega (arith, l);
  next = omega arith;
  few = omega arith;
  most = omega arith;
  is_group =
      record { above_mask = omega arith; fits = omega (arith, l); placed = omega arith };
}
slot-lies groups.Four k l = record {
  low = omega arith;
  high = omega (arith, l);
  next = omega arith;
  few = omega arith;
  most = omega arith;
  is_group =
      record { above_mask = omega arith; fits = omega (arith, l); placed = omega arith };
}

pub spare-is : (group : LaneGroup) → IsAnyGroup (registers group) (spare group)
spare-is groups.One = record { some = omega arith; fits = omega arith; placed = omega arith }
spare-is groups.Two = record { some = omega arith; fits = omega arith; placed = omega arith }
spare-is groups.Four = record { some = omega arith; fits = omega arith; placed = omega arith }

-- the scratch group is right below the stack
pub spare-next : (group : LaneGroup) → spare group + registers group ≡ slot group 0
spare-next groups.One = refl
spare-next groups.Two = refl
spare-next groups.Four = refl

pub stack-low : (group : LaneGroup) → 2 ≤ slot group 0
stack-low groups.One = omega arith
stack-low groups.Two = omega arith
stack-low groups.Four = omega arith

pub any-group : (g v : ℕ) → 1 ≤ g → IsGroup g v → IsAnyGroup g v
any-group g v some is = record { some = some; fits = is.fits; placed = is.placed }

-- where scratch is written scalar registers stay, and the stack
pub spare-keeps : (group : LaneGroup) (f : ℕ → ℕ) (n : ℕ) (new : ℕ → ℕ) (q : ℕ) → n ≤ 4 * registers group → (q < 34) ⊎ ((lane (slot group 0) 0 ≤ q) × (q < bit 0))
    → write_group f (spare group) n new q ≡ f q
spare-keeps groups.One f n new q few (inl a) = lanes-below f 1 n new q (omega (arith, a))
spare-keeps groups.One f n new q few (inr a) = let b = a.0 in lanes-above f 1 n new q (omega (arith, b, few))
spare-keeps groups.Two f n new q few (inl a) = lanes-below f 2 n new q (omega (arith, a))
spare-keeps groups.Two f n new q few (inr a) = let b = a.0 in lanes-above f 2 n new q (omega (arith, b, few))
spare-keeps groups.Four f n new q few (inl a) = first-lanes-stay f n new q (omega (arith, few)) (inl (omega (arith, a))) (omega (arith, a))
spare-keeps groups.Four f n new q few (inr a) = let b = a.0 in let c = a.1 in first-lanes-stay f n new q (omega (arith, few))
    (inr (omega (arith, b, few), omega (arith, b))) (omega (arith, c))

-- the first three slots
three-slots : (group : LaneGroup) → 3 ≤ slots group
three-slots groups.One = omega arith
three-slots groups.Two = omega arith
three-slots groups.Four = omega arith

pub slot-at : (group : LaneGroup) (k : ℕ) → k ≤ 2 → SlotLies group k
slot-at group k l = let t = three-slots group in slot-lies group k (omega (arith, l, t))
