-- Code over lanes that goes on after other code.
use Rattle.std.proofs.Common.{◌≡◌, ℕ, ◌+◌, ◌*◌, ◌^◌, ◌<◌, ◌≤◌, List, [], ◌∷◌, ◌++◌, length, refl, ◌∙◌, sym, subst, arith, inl, inr}
use Rattle.std.specs.Prelude.{◌≢◌, ◌⊎◌, ◌%◌}
use Rattle.std.proofs.lemmas.Bool.{cases_lt}
use Rattle.rv_insn.specs.declared.instructions.Insn.{Insn}
use Rattle.rv_insn.specs.declared.instructions.Insn.TheVariants.{Vector}
use Rattle.rv_insn.specs.declared.vector_instructions.VectorInsn.TheVariants as v
use Rattle.halide_pipeline.specs.Pixel.{Reads}
use Rattle.loop_ir.specs.Counters.{Values, with}
use Rattle.multi_hart_laws.specs.Alone.{World}
use Rattle.multi_hart_laws.specs.Paths.{lane, vl_number, vtype_number}
use Rattle.multi_hart_laws.proofs.Paths.{line-then}
use Rattle.multi_hart_laws.proofs.VectorRows as vector
use Rattle.task_code_scalar.specs.declared.layouts.Places.{Places}
use Rattle.task_code_scalar.specs.Words.{Emits}
use Rattle.task_code_scalar.proofs.Spelling.{emits_then}
use Rattle.task_code_registers.specs.declared.scopes.Held.{Held}
use Rattle.task_code_registers.specs.Registers.{scratch, second_scratch, address_register, first_value}
use Rattle.task_code_registers.specs.Scopes.{Knows, AreHolders, IsHolder, IsKept}
use Rattle.task_code_registers.proofs.Knowing.{may-hold, knows-still, working-free}
use Rattle.task_code_values.specs.Making.{IsBelow, MakesHeld}
use Rattle.task_code_values.proofs.Standing.{below-apart}
use Rattle.task_code_lanes.specs.declared.groups.LaneGroup.{LaneGroup}
use Rattle.task_code_lanes.specs.Groups.{registers, slots, slot}
use Rattle.task_code_lanes.specs.Leaving.{HasLanes, IsKept as IsLaneKept, LeavesLanes as LeavesSlot}
use Rattle.task_code_lanes.proofs.Slots.{slot-lies}
use Rattle.task_code_lanes.proofs.Rows as rows
use Rattle.task_code_lane_values.specs.declared.vectorized.VectorLanes.{VectorLanes}
use Rattle.task_code_lane_values.specs.Leaving.{IsUnder, LeavesLanes}
use Rattle.task_code_lane_values.specs.inner.Parts.{MakesScalar, MakesEach, ComputesOne, ComputesBy, ComputesTwo, ComputesThree, Nothing}

-- ---- what stays

apart : (q : ℕ) → q ≢ scratch → q ≢ second_scratch → q ≢ address_register → (q < scratch) ⊎ (address_register < q)
apart q a b c = elim (cases_lt q 13) [ inl x ↦ inl x | inr x ↦ inr (omega (arith, a, b, c, x)) ]

holder-under : (group : LaneGroup) (k q : ℕ) → IsHolder q → IsUnder group k q
holder-under group k q (inl may) = let m = may-hold q may in inl (m.high, apart q m.first m.second m.third)
holder-under group k q (inr o) = inr (inl o)

-- the scope's registers stay
pub kept-under : (group : LaneGroup) (k : ℕ) (scope : List Held) (q : ℕ) → AreHolders scope → IsKept scope q → IsUnder group k q
kept-under group k [] q holders (inl e) = inl (omega (arith, e), inl (omega (arith, e)))
kept-under group k [] q holders (inr o) = inl (omega (arith, o), inl (omega (arith, o)))
kept-under group k (own ∷ others) q holders (inl e) = subst (IsUnder group k) (sym e) (holder-under group k own.register holders.0)
kept-under group k (own ∷ others) q holders (inr h) = kept-under group k others q holders.1.1 h

-- and so does all that stays, where a scalar is made
pub under-below : (group : LaneGroup) (k q : ℕ) → IsUnder group k q → IsBelow first_value q
under-below group k q (inl h) = (h.1, inl h.0)
under-below group k q (inr (inl o)) = (inr (omega (arith, o)), inr (omega (arith, o)))
under-below group k q (inr (inr h)) = let a = h.0 in (inr (omega (arith, a)), inr (omega (arith, a)))

pub lane-below : (r i : ℕ) → IsBelow first_value (lane r i)
lane-below r i = (inr (omega arith), inr (omega arith))

pub under-kept : (group : LaneGroup) (k q : ℕ) → IsUnder group k q → IsLaneKept group k q
under-kept group k q (inl h) = inl (h.0, elim h.1 [ inl a ↦ inl a | inr a ↦ inr (omega (arith, a)) ])
under-kept group k q (inr h) = inr h

pub under-next : (group : LaneGroup) (k q : ℕ) → k < slots group → IsUnder group k q → IsUnder group (k + 1) q
under-next group k q l (inl h) = inl h
under-next group k q l (inr (inl o)) = inr (inl o)
under-next group k q l (inr (inr h)) = let s = slot-lies group k l in let e = s.next in let b = h.1 in inr (inr (h.0, omega (arith, b, e)))

-- a group's lanes stay where the next one is made
pub slot-under : (group : LaneGroup) (k i n : ℕ) → k < slots group → n ≤ 4 * registers group → i < n → IsUnder group (k + 1) (lane (slot group k) i)
slot-under group k i n l few b = let s = slot-lies group k l in let e = s.next in let low = s.low in inr (inr (omega (arith, low), omega (arith, e, b, few)))

-- two groups further
pub under-two : (group : LaneGroup) (k q : ℕ) → k + 1 < slots group → IsUnder group (k + 1) q → IsUnder group (k + 2) q
under-two group k q l h = let e : k + 1 + 1 ≡ k + 2 = omega arith in subst (λ j. IsUnder group j q) e (under-next group (k + 1) q l h)

pub slot-under-two : (group : LaneGroup) (k i n : ℕ) → k + 1 < slots group → n ≤ 4 * registers group → i < n → IsUnder group (k + 2) (lane (slot group (k + 1)) i)
slot-under-two group k i n l few b = let e : k + 1 + 1 ≡ k + 2 = omega arith in subst (λ j. IsUnder group j (lane (slot group (k + 1)) i)) e
    (slot-under group (k + 1) i n l few b)

pub vl-under : (group : LaneGroup) (k : ℕ) → IsUnder group k vl_number
vl-under group k = inr (inl (inl refl))

pub vtype-under : (group : LaneGroup) (k : ℕ) → IsUnder group k vtype_number
vtype-under group k = inr (inl (inr refl))

module _ (w : World) (m : List ℕ) (l : length m ≡ w.size) (group : LaneGroup) (n : ℕ) where
  pub lanes-under : (k : ℕ) (f g : ℕ → ℕ) → ((q : ℕ) → IsUnder group k q → g q ≡ f q) → HasLanes group n f → HasLanes group n g
  lanes-under k f g same has = rows.lanes-kept w m l group n f g (same vl_number (vl-under group k)) (same vtype_number (vtype-under group k)) has

  pub lanes-scalar : (f g : ℕ → ℕ) → ((q : ℕ) → IsBelow first_value q → g q ≡ f q) → HasLanes group n f → HasLanes group n g
  lanes-scalar f g same has =
      rows.lanes-kept w m l group n f g (same vl_number (under-below group 0 vl_number (vl-under group 0))) (same vtype_number
      (under-below group 0 vtype_number (vtype-under group 0))) has

  -- what instructions in a slot leave
  pub left-of : (is : List Insn) (f : ℕ → ℕ) (k : ℕ) (x : ℕ → ℕ) → ((i : ℕ) → i < n → x i < 2 ^ 32) → LeavesSlot w m group n is f k x
      → LeavesLanes w m is f group k n x
  left-of is f k x small a = record { after = a.after; line = a.line; value = a.value; small = small; keeps = λ q u. a.keeps q (under-kept group k q u) }

-- ---- scalars

-- a number or a form is one that a register holds or gets
pub scalar-held : (scope : List Held) (lanes : VectorLanes) (most s : ℕ) (c0 c1 : List ℕ) (says : ℕ → Values → ℕ) → ((hart : ℕ) (values : Values)
    → says hart values < 2 ^ 32)
    → MakesHeld c0 c1 most scope address_register s says → MakesScalar c0 c1 scope lanes s Nothing (λ hart reads values. says hart (with lanes.counter 0 values))
scalar-held scope lanes most s c0 c1 says small x = record {
  insns = x.insns;
  emits = x.emits;
  source = x.source;
  does = λ w m values reads f l holders knows may.
      let a = x.does w m w.hart (with lanes.counter 0 values) f l holders (working-free scope address_register holders (inl (omega arith, omega arith))) knows in
      record {
        after = a.after;
        line = a.line;
        value = a.value;
        small = small w.hart (with lanes.counter 0 values);
        keeps = λ q k. let d = below-apart first_value address_register q (inl refl) k in a.others q d.0 d.1.0 d.1.1;
      };
}

pub scalar-as : (scope : List Held) (lanes : VectorLanes) (s : ℕ) (c0 c1 : List ℕ) (may : World → List ℕ → Reads → Values → Type 0) (says other : ℕ → Reads
    → Values → ℕ)
    → ((hart : ℕ) (reads : Reads) (values : Values) → says hart reads values ≡ other hart reads values) → MakesScalar c0 c1 scope lanes s may says
    → MakesScalar c0 c1 scope lanes s may other
scalar-as scope lanes s c0 c1 may says other same x = record {
  insns = x.insns;
  emits = x.emits;
  source = x.source;
  does = λ w m values reads f l holders knows can.
      let a = x.does w m values reads f l holders knows can in
      let e = same w.hart reads values in
      record { after = a.after; line = a.line; value = a.value ∙ e; small = subst (λ z. z < 2 ^ 32) e a.small; keeps = a.keeps };
}

-- ---- one part after another

-- the same of what has as much of memory
pub each-as : (places : Places) (scope : List Held) (lanes : VectorLanes) (k : ℕ) (c0 c1 : List ℕ) (may other : World → List ℕ → Reads → Values → ℕ → Type 0)
    (says : Reads → Values → ℕ → ℕ)
    → ((w : World) (m : List ℕ) (reads : Reads) (values : Values) (n : ℕ) → 1 ≤ n → ((i : ℕ) → i < n → other w m reads values i) → (i : ℕ) → i < n
    → may w m reads values i)
    → MakesEach c0 c1 places scope lanes k may says → MakesEach c0 c1 places scope lanes k other says
each-as places scope lanes k c0 c1 may other says can a = record {
  insns = a.insns;
  emits = a.emits;
  does = λ w m values reads n f l are holders knows has some few all. a.does w m values reads n f l are holders knows has some few
      (can w m reads values n some all);
}

module _ (places : Places) (scope : List Held) (vector_lanes : VectorLanes) (k : ℕ)
    (in-stack : k < slots vector_lanes.group) where
  abbrev MayEach : Type 1
  MayEach = World → List ℕ → Reads → Values → ℕ → Type 0

  abbrev MayOnce : Type 1
  MayOnce = World → List ℕ → Reads → Values → Type 0

  known : (hart : ℕ) (values : Values) (j : ℕ) (f g : ℕ → ℕ) → AreHolders scope → ((q : ℕ) → IsUnder vector_lanes.group j q → g q ≡ f q)
      → Knows hart scope values f → Knows hart scope values g
  known hart values j f g holders same knows = knows-still hart scope values f g (λ q h. same q (kept-under vector_lanes.group j scope q holders h)) knows

  -- all lanes are a scalar
  pub each-spread : (s : ℕ) (c0 c1 c2 : List ℕ) (mb : MayOnce) (xb : Reads → Values → ℕ) → MakesScalar c0 c1 scope vector_lanes s mb
      (λ hart reads values. xb reads values)
      → Emits c1 c2 (Vector (v.MoveVx (slot vector_lanes.group k) s) ∷ [])
      → MakesEach c0 c2 places scope vector_lanes k (λ w m reads values i. mb w m reads values) (λ reads values i. xb reads values)
  each-spread s c0 c1 c2 mb xb x z = record {
    insns = x.insns ++ (Vector (v.MoveVx (slot vector_lanes.group k) s) ∷ []);
    emits = emits_then x.emits z;
    does = λ w m values reads n f l are holders knows has some few may.
        let p = x.does w m values reads f l holders knows (may 0 (omega (arith, some))) in
        let hp = lanes-scalar w m l vector_lanes.group n f p.after p.keeps has in
        let lies = slot-lies vector_lanes.group k in-stack in
        let c = xb reads values in
        let small = p.small in
        let e = p.value in
        let t = left-of w m l vector_lanes.group n (Vector (v.MoveVx (slot vector_lanes.group k) s) ∷ []) p.after k (λ i. c) (λ i b. small)
        (rows.last w m l vector_lanes.group n k lies (rows.writes w m l vector_lanes.group n (λ i. c)
        (λ i. p.after s % 2 ^ 32) hp
        (vector.move-vx w p.after m l (registers vector_lanes.group) hp.configured (slot vector_lanes.group k) s lies.is_group x.source.0) (λ i b. omega (arith, e, small)))) in
        record {
          after = t.after;
          line = line-then w x.insns (Vector (v.MoveVx (slot vector_lanes.group k) s) ∷ []) f p.after t.after m m m p.line t.line;
          value = t.value;
          small = t.small;
          keeps = λ q u. t.keeps q u ∙ p.keeps q (under-below vector_lanes.group k q u);
        };
  }

  pub each-one : (c0 c1 c2 : List ℕ) (ma : MayEach) (xa : Reads → Values → ℕ → ℕ) (says : ℕ → ℕ) → MakesEach c0 c1 places scope vector_lanes k ma xa
      → ComputesOne c1 c2 vector_lanes.group k says
      → MakesEach c0 c2 places scope vector_lanes k ma (λ reads values i. says (xa reads values i))
  each-one c0 c1 c2 ma xa says x z = record {
    insns = x.insns ++ z.insns;
    emits = emits_then x.emits z.emits;
    does = λ w m values reads n f l are holders knows has some few may.
        let p = x.does w m values reads n f l are holders knows has some few may in
        let hp = lanes-under w m l vector_lanes.group n k f p.after p.keeps has in
        let t = z.does w m n p.after (xa reads values) l hp p.value p.small in
        record {
          after = t.after;
          line = line-then w x.insns z.insns f p.after t.after m m m p.line t.line;
          value = t.value;
          small = t.small;
          keeps = λ q u. t.keeps q u ∙ p.keeps q u;
        };
  }

  -- an operation on lanes and a scalar
  pub each-by : (s : ℕ) (c0 c1 c2 c3 : List ℕ) (ma : MayEach) (mb : MayOnce) (xa : Reads → Values → ℕ → ℕ) (xb : Reads → Values → ℕ) (fits : ℕ → Type 0)
      (says : ℕ → ℕ → ℕ)
      → MakesEach c0 c1 places scope vector_lanes k ma xa → MakesScalar c1 c2 scope vector_lanes s mb (λ hart reads values. xb reads values)
      → ComputesBy c2 c3 vector_lanes.group k s fits says
      → ((reads : Reads) (values : Values) → xb reads values < 2 ^ 32 → fits (xb reads values))
      → MakesEach c0 c3 places scope vector_lanes k (λ w m reads values i. ma w m reads values i × mb w m reads values) (λ reads values i. says (xa reads values i)
      (xb reads values))
  each-by s c0 c1 c2 c3 ma mb xa xb fits says x y z fit = record {
    insns = x.insns ++ (y.insns ++ z.insns);
    emits = emits_then x.emits (emits_then y.emits z.emits);
    does = λ w m values reads n f l are holders knows has some few may.
        let p = x.does w m values reads n f l are holders knows has some few (λ i b. (may i b).0) in
        let kp = known w.hart (with vector_lanes.counter 0 values) k f p.after holders p.keeps knows in
        let hp = lanes-under w m l vector_lanes.group n k f p.after p.keeps has in
        let q = y.does w m values reads p.after l holders kp ((may 0 (omega (arith, some))).1) in
        let hq = lanes-scalar w m l vector_lanes.group n p.after q.after q.keeps hp in
        let t = z.does w m n q.after (xa reads values) (xb reads values) l hq (λ i b. q.keeps (lane (slot vector_lanes.group k) i) (lane-below
        (slot vector_lanes.group k) i) ∙ p.value i b) p.small q.value
        q.small (fit reads values q.small) in
        record {
          after = t.after;
          line = line-then w x.insns (y.insns ++ z.insns) f p.after t.after m m m p.line (line-then w y.insns z.insns p.after q.after t.after m m m q.line
              t.line);
          value = t.value;
          small = t.small;
          keeps = λ u h. t.keeps u h ∙ q.keeps u (under-below vector_lanes.group k u h) ∙ p.keeps u h;
        };
  }

  -- an operation on two groups
  pub each-two : (c0 c1 c2 c3 : List ℕ) (ma mb : MayEach) (xa xb : Reads → Values → ℕ → ℕ) (says : ℕ → ℕ → ℕ) → MakesEach c0 c1 places scope vector_lanes k ma xa
      → MakesEach c1 c2 places scope vector_lanes (k + 1) mb xb → ComputesTwo c2 c3 vector_lanes.group k says
      → MakesEach c0 c3 places scope vector_lanes k (λ w m reads values i. ma w m reads values i × mb w m reads values i) (λ reads values i. says
      (xa reads values i) (xb reads values i))
  each-two c0 c1 c2 c3 ma mb xa xb says x y z = record {
    insns = x.insns ++ (y.insns ++ z.insns);
    emits = emits_then x.emits (emits_then y.emits z.emits);
    does = λ w m values reads n f l are holders knows has some few may.
        let p = x.does w m values reads n f l are holders knows has some few (λ i b. (may i b).0) in
        let kp = known w.hart (with vector_lanes.counter 0 values) k f p.after holders p.keeps knows in
        let hp = lanes-under w m l vector_lanes.group n k f p.after p.keeps has in
        let q = y.does w m values reads n p.after l are holders kp hp some few (λ i b. (may i b).1) in
        let hq = lanes-under w m l vector_lanes.group n (k + 1) p.after q.after q.keeps hp in
        let t = z.does w m n q.after (xa reads values) (xb reads values) l hq (λ i b. q.keeps (lane (slot vector_lanes.group k) i)
        (slot-under vector_lanes.group k i n in-stack few b) ∙ p.value i b) q.value
        p.small q.small in
        record {
          after = t.after;
          line = line-then w x.insns (y.insns ++ z.insns) f p.after t.after m m m p.line (line-then w y.insns z.insns p.after q.after t.after m m m q.line
              t.line);
          value = t.value;
          small = t.small;
          keeps = λ u h. t.keeps u h ∙ q.keeps u (under-next vector_lanes.group k u in-stack h) ∙ p.keeps u h;
        };
  }

  -- an operation on three groups
  pub each-three : k + 2 < slots vector_lanes.group → (c0 c1 c2 c3 c4 : List ℕ) (mc ma mb : MayEach) (xc xa xb : Reads → Values → ℕ → ℕ) (says : ℕ → ℕ → ℕ → ℕ)
      → MakesEach c0 c1 places scope vector_lanes k mc xc
      → MakesEach c1 c2 places scope vector_lanes (k + 1) ma xa → MakesEach c2 c3 places scope vector_lanes (k + 2) mb xb → ComputesThree c3 c4 vector_lanes.group k says
      → MakesEach c0 c4 places scope vector_lanes k (λ w m reads values i. mc w m reads values i × (ma w m reads values i × mb w m reads values i))
      (λ reads values i. says (xc reads values i) (xa reads values i) (xb reads values i))
  each-three room c0 c1 c2 c3 c4 mc ma mb xc xa xb says o x y z = record {
    insns = o.insns ++ (x.insns ++ (y.insns ++ z.insns));
    emits = emits_then o.emits (emits_then x.emits (emits_then y.emits z.emits));
    does = λ w m values reads n f l are holders knows has some few may.
        let first = with vector_lanes.counter 0 values in
        let in-next : k + 1 < slots vector_lanes.group = omega (arith, room) in
        let s = o.does w m values reads n f l are holders knows has some few (λ i b. (may i b).0) in
        let ks = known w.hart first k f s.after holders s.keeps knows in
        let hs = lanes-under w m l vector_lanes.group n k f s.after s.keeps has in
        let p = x.does w m values reads n s.after l are holders ks hs some few (λ i b. (may i b).1.0) in
        let kp = known w.hart first (k + 1) s.after p.after holders p.keeps ks in
        let hp = lanes-under w m l vector_lanes.group n (k + 1) s.after p.after p.keeps hs in
        let q = y.does w m values reads n p.after l are holders kp hp some few (λ i b. (may i b).1.1) in
        let hq = lanes-under w m l vector_lanes.group n (k + 2) p.after q.after q.keeps hp in
        let up : (u : ℕ) → IsUnder vector_lanes.group (k + 1) u → IsUnder vector_lanes.group (k + 2) u = (λ u h. under-two vector_lanes.group k u in-next h) in
        let ec : (i : ℕ) → i < n → q.after (lane (slot vector_lanes.group k) i) ≡ xc reads values i =
        (λ i b. let h = slot-under vector_lanes.group k i n in-stack few b in q.keeps (lane (slot vector_lanes.group k) i) (up (lane (slot vector_lanes.group k) i) h) ∙ p.keeps
        (lane (slot vector_lanes.group k) i) h ∙ s.value i b) in
        let ex : (i : ℕ) → i < n → q.after (lane (slot vector_lanes.group (k + 1)) i) ≡ xa reads values i =
        (λ i b. q.keeps (lane (slot vector_lanes.group (k + 1)) i) (slot-under-two vector_lanes.group k i n in-next few b) ∙ p.value i b) in
        let t = z.does w m n q.after (xc reads values) (xa reads values) (xb reads values) l hq ec ex q.value s.small p.small q.small in
        record {
          after = t.after;
          line = line-then w o.insns (x.insns ++ (y.insns ++ z.insns)) f s.after t.after m m m s.line
              (line-then w x.insns (y.insns ++ z.insns) s.after p.after t.after m m m p.line (line-then w y.insns z.insns p.after q.after t.after m m m
              q.line t.line));
          value = t.value;
          small = t.small;
          keeps = λ u h. let h1 = under-next vector_lanes.group k u in-stack h in t.keeps u h ∙ q.keeps u (up u h1) ∙ p.keeps u h1 ∙ s.keeps u h;
        };
  }
