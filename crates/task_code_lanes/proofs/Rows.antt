-- Single instructions over lanes, and code that goes on after them.
use Rattle.std.proofs.Common.{◌≡◌, ℕ, ◌+◌, ◌*◌, ◌<◌, ◌≤◌, List, ◌++◌, length, ap, ◌∙◌, refl, arith, inl, inr}
use Rattle.std.specs.Prelude.{◌⊎◌}
use Rattle.rv_insn.specs.declared.instructions.Insn.{Insn}
use Rattle.multi_hart_laws.specs.Alone.{World}
use Rattle.multi_hart_laws.specs.Paths.{Line, lane, bit, vl_number, vtype_number, write_lanes}
use Rattle.multi_hart_laws.specs.FirstGroup.{held, write_group}
use Rattle.multi_hart_laws.proofs.Paths.{line-then}
use Rattle.multi_hart_laws.proofs.LaneRows.{lanes-new, lanes-below, lanes-above}
use Rattle.multi_hart_laws.proofs.FirstGroup.{held-above, held-same, written-above}
use Rattle.vector_unit.specs.Vector.{is_supported, width_of, group_of, most_elements}
use Rattle.task_code_lanes.specs.declared.groups.LaneGroup.{LaneGroup}
use Rattle.task_code_lanes.specs.Groups.{registers, slot, spare}
use Rattle.task_code_lanes.specs.Leaving.{HasLanes, IsKept, LeavesLanes}
use Rattle.task_code_lanes.proofs.Slots.{SlotLies, spare-next}

module _ (w : World) (m : List ℕ) (l : length m ≡ w.size) (group : LaneGroup) (n : ℕ) where
  abbrev g : ℕ
  g = registers group

  abbrev pub Lanes : (ℕ → ℕ) → Type 0
  Lanes f = HasLanes group n f

  abbrev pub Leaves : List Insn → (ℕ → ℕ) → ℕ → (ℕ → ℕ) → Type 0
  Leaves is f k v = LeavesLanes w m group n is f k v

  -- lanes from one number on are set, and all other numbers stay
  pub record Writes (is : List Insn) (f : ℕ → ℕ) (d : ℕ) (v : ℕ → ℕ) : Type 0 where
    pub after : ℕ → ℕ
    pub line : Line w is f m after m
    pub value : (i : ℕ) → i < n → after (lane d i) ≡ v i
    pub below : (q : ℕ) → q < lane d 0 → after q ≡ f q
    pub above : (q : ℕ) → lane d n ≤ q → after q ≡ f q

  pub writes : {is : List Insn} {f : ℕ → ℕ} {d : ℕ} (v new : ℕ → ℕ) → Lanes f → Line w is f m (write_lanes f d (f vl_number) new) m
      → ((i : ℕ) → i < n → new i ≡ v i) → Writes is f d v
  writes {is} {f} {d} v new has line same =
      let e = has.count in
      record {
        after = write_lanes f d (f vl_number) new;
        line = line;
        value = λ i b. lanes-new f d (f vl_number) new (lane d i) i refl (omega (arith, e, b)) ∙ same i b;
        below = λ q b. lanes-below f d (f vl_number) new q b;
        above = λ q b. lanes-above f d (f vl_number) new q (omega (arith, e, b));
      }

  pub lanes-kept : (f f' : ℕ → ℕ) → f' vl_number ≡ f vl_number → f' vtype_number ≡ f vtype_number → Lanes f → Lanes f'
  lanes-kept f f' el et has =
      let c = has.configured in
      record {
        configured = record {
          supported = ap is_supported et ∙ c.supported;
          width = ap width_of et ∙ c.width;
          group = ap group_of et ∙ c.group;
          most = ap most_elements et ∙ c.most;
          fits = let p = c.fits in omega (arith, el, p);
        };
        count = el ∙ has.count;
      }

  pub few-lanes : (f : ℕ → ℕ) → Lanes f → n ≤ 4 * g
  few-lanes f has = let c = has.configured in let p = c.fits in let e = has.count in omega (arith, p, e)

  pub writes-lanes : {is : List Insn} {f : ℕ → ℕ} {d : ℕ} {v : ℕ → ℕ} → (a : Writes is f d v) → Lanes f → Lanes a.after
  writes-lanes {is} {f} {d} {v} a has = lanes-kept f a.after (a.below vl_number (omega arith)) (a.below vtype_number (omega arith)) has

  -- lanes of any group hold numbers
  abbrev pub HoldAny : (ℕ → ℕ) → ℕ → (ℕ → ℕ) → Type 0
  HoldAny f s x = (i : ℕ) → i < n → held f s i ≡ x i

  -- ---- what code with its value in a slot keeps

  module _ (k : ℕ) (lies : SlotLies group k) where
    abbrev r : ℕ
    r = slot group k

    pub kept-below : (d q : ℕ) → r ≤ d → IsKept group k q → q < lane d 0
    kept-below d q above (inl x) = let b = x.0 in omega (arith, b)
    kept-below d q above (inr (inl e)) = omega (arith, e)
    kept-below d q above (inr (inr x)) = let b = x.1 in omega (arith, b, above)

    -- a group beside the slot's: one above it, or scratch
    abbrev pub Aside : ℕ → Type 0
    Aside s = ((r + g ≤ s) × (s + g ≤ 32)) ⊎ (s ≡ spare group)

    -- a number outside the lanes of a group
    abbrev pub Outside : ℕ → ℕ → Type 0
    Outside q d = (q < lane d 0) ⊎ (lane d n ≤ q)

    -- lanes of the slot are set, by a row that reads any group
    pub slot-writes : {is : List Insn} {f : ℕ → ℕ} (v new : ℕ → ℕ) → Lanes f → Line w is f m (write_group f r (f vl_number) new) m
        → ((i : ℕ) → i < n → new i ≡ v i) → Writes is f r v
    slot-writes {is} {f} v new has line same =
        let e = has.count in
        let low = lies.is_group.above_mask in
        record {
          after = write_group f r (f vl_number) new;
          line = line;
          value = λ i b. written-above f r (f vl_number) new (lane r i) low ∙ lanes-new f r (f vl_number) new (lane r i) i refl (omega (arith, e, b))
              ∙ same i b;
          below = λ q b. written-above f r (f vl_number) new q low ∙ lanes-below f r (f vl_number) new q b;
          above = λ q b. written-above f r (f vl_number) new q low ∙ lanes-above f r (f vl_number) new q (omega (arith, e, b));
        }

    pub slot-held : (f : ℕ → ℕ) (i : ℕ) → held f r i ≡ f (lane r i)
    slot-held f i = held-above f r i lies.is_group.above_mask

    -- lanes beside the slot stay where those of the slot are set, or a scratch register
    aside-outside : (s i : ℕ) → Aside s → n ≤ 4 * g → i < n → Outside (lane s i) r
    aside-outside s i (inl above) few b = let a = above.0 in inr (omega (arith, a, few))
    aside-outside s i (inr e) few b = inl (let lo = lies.low in let o = spare-next group in omega (arith, lo, o, e, few, b))

    pub aside-stays : {is : List Insn} {f : ℕ → ℕ} {s : ℕ} {v x : ℕ → ℕ} → (a : Writes is f r v) → Aside s → n ≤ 4 * g → HoldAny f s x → HoldAny a.after s x
    aside-stays {is} {f} {s} a aside few holds i b =
        let high = lies.high in
        held-same f a.after s i (λ j l some. a.above (bit (32 * i + j)) (omega (arith, high, few)))
        (elim (aside-outside s i aside few b) [ inl x ↦ a.below (lane s i) x | inr x ↦ a.above (lane s i) x ])
        ∙ holds i b

    -- ---- one after the other

    pub last : {is : List Insn} {f : ℕ → ℕ} {v : ℕ → ℕ} → Writes is f r v → Leaves is f k v
    last a = record { after = a.after; line = a.line; value = a.value; keeps = λ q kept. a.below q (kept-below r q (omega arith) kept) }

    pub slot-first : {is js : List Insn} {f : ℕ → ℕ} {d : ℕ} {u v : ℕ → ℕ} → (a : Writes is f d u) → r ≤ d → Leaves js a.after k v → Leaves (is ++ js) f k v
    slot-first {is} {js} {f} {d} {u} {v} a above b = record {
      after = b.after;
      line = line-then w is js f a.after b.after m m m a.line b.line;
      value = b.value;
      keeps = λ q kept. b.keeps q kept ∙ a.below q (kept-below d q above kept);
    }

    pub same-values : {is : List Insn} {f : ℕ → ℕ} {u v : ℕ → ℕ} → ((i : ℕ) → i < n → u i ≡ v i) → Leaves is f k u → Leaves is f k v
    same-values e a = record { after = a.after; line = a.line; value = λ i b. a.value i b ∙ e i b; keeps = a.keeps }
