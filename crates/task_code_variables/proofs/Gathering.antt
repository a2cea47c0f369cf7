-- What lanes hold after so many iterations that collect their pixels, and what the instruction leaves that stores them.
use Rattle.std.proofs.Common.{◌≡◌, ℕ, suc, ◌+◌, ◌-◌, ◌^◌, ◌<◌, ◌≤◌, List, [], ◌∷◌, true, refl, ap, ◌∙◌, sym, subst, arith, inl, inr}
use Rattle.std.specs.Prelude.{◌⊎◌, Option, Some, None}
use Rattle.std.proofs.lemmas.Bool.{cases_lt}
use Rattle.rv_insn.specs.declared.instructions.Insn.{Insn}
use Rattle.rv_insn.specs.declared.instructions.Insn.TheVariants.{Vector}
use Rattle.rv_insn.specs.declared.vector_instructions.VectorInsn.TheVariants as v
use Rattle.rv_insn.specs.declared.vector_instructions.Addressing.TheVariants as addressings
use Rattle.rv_insn.specs.declared.vector_operations.ElementWidth.TheVariants.{Bits32}
use Rattle.memory.specs.Access.{Word, touched}
use Rattle.lanes.specs.Words as lanes
use Rattle.vector_unit.specs.Vector.{is_supported, width_of, group_of, most_elements}
use Rattle.halide_pipeline.specs.Pixel.{Planes, reads_of}
use Rattle.loop_ir.specs.declared.statements.Stmt.{Stmt}
use Rattle.loop_ir.specs.AtOnce.{Effect, effect}
use Rattle.loop_ir.specs.Counters.{Values}
use Rattle.loop_ir.specs.LoopLanes.{loop_lanes}
use Rattle.multi_hart_laws.specs.Alone.{World, Keeps}
use Rattle.multi_hart.specs.Run.{is_in}
use Rattle.multi_hart_laws.specs.Paths.{Path, lane, vl_number}
use Rattle.multi_hart_laws.specs.LaneMemory.{accesses_to, stored_lanes, AllWritable}
use Rattle.multi_hart_laws.proofs.LaneStores.{stores, stores-write}
use Rattle.multi_hart_laws.proofs.Rows.{keeps-none}
use Rattle.task_code_scalar.specs.Layout.{func_point, address_of, IsOf}
use Rattle.task_code_scalar.specs.Doing.{Setting, IsSetting, IsAmong, AreRun, HoldsFuncs}
use Rattle.task_code_lanes.specs.declared.groups.LaneGroup.{LaneGroup}
use Rattle.task_code_lanes.specs.Groups.{registers, slot}
use Rattle.task_code_lanes.specs.Leaving.{HasLanes}
use Rattle.task_code_lanes.proofs.Effects.{HitBy, effect_hits, laid, laid-same, laid-cut}
use Rattle.task_code_lanes.proofs.Slots.{slot-at}
use Rattle.task_code_lanes.proofs.StoredRows.{lanes-same, may, all-writable, row-holds, row-touched}
use Rattle.task_code_lanes.proofs.Runs.{StoreRuns}
use Rattle.task_code_registers.proofs.Going.{Does}
use Rattle.task_code_variables.specs.Collecting.{CollectsIf, CollectsOne, SameLanes, address_in}
use Rattle.task_code_variables.proofs.Passing.{Stored, OfFunc, of-func, all-before}

none-some : {own : Effect} → None ≡ Some own → ⊥
none-some e = absurd (cc e)

abbrev of_some : Effect → Option Effect → Effect
of_some other None = other
of_some other (Some own) = own

sum-is : (a s : ℕ) → a ≡ 0 → s < 2 ^ 32 → lanes.add 32 a s ≡ s
sum-is a s e l = omega (arith, e, l)

module _ (setting : Setting) (good : IsSetting setting) (group : LaneGroup) (body : Stmt) (at : ℕ → Values) where
  abbrev w : World
  w = setting.world

  abbrev effects : Planes → ℕ → Option Effect
  effects funcs k = effect (reads_of setting.inputs funcs) body (at k)

  -- ---- what lanes hold after this many iterations

  -- an iteration's pixel and address are in the lanes with its number
  pub record Holds (funcs : Planes) (k : ℕ) (f : ℕ → ℕ) : Type 0 where
    pub stored : Effect
    pub is : effects funcs k ≡ Some stored
    pub written : setting.written stored.func stored.x stored.y ≡ true
    pub small : stored.pixel < 2 ^ 32
    pub pixel_is : f (lane (slot group 0) k) ≡ stored.pixel
    pub address_is : f (lane (slot group 1) k) ≡ address_in setting stored

  -- those of the first iterations, as many as are configured; the others store nothing
  pub record Gathered (funcs : Planes) (n : ℕ) (f : ℕ → ℕ) : Type 0 where
    pub count : ℕ
    pub few : count ≤ n
    pub has : HasLanes group count f
    pub each : (k : ℕ) → k < count → Holds funcs k f
    pub none : (k : ℕ) → count ≤ k → k < n → effects funcs k ≡ None

  held-same : (funcs : Planes) (k : ℕ) (f g : ℕ → ℕ) → g (lane (slot group 0) k) ≡ f (lane (slot group 0) k)
      → g (lane (slot group 1) k) ≡ f (lane (slot group 1) k) → Holds funcs k f → Holds funcs k g
  held-same funcs k f g e0 e1 a = record {
    stored = a.stored;
    is = a.is;
    written = a.written;
    small = a.small;
    pixel_is = e0 ∙ a.pixel_is;
    address_is = e1
        ∙ a.address_is;
  }

  pub gathered-stay : (funcs : Planes) (n : ℕ) (f g : ℕ → ℕ) → SameLanes f g → Gathered funcs n f → Gathered funcs n g
  gathered-stay funcs n f g same a = record {
    count = a.count;
    few = a.few;
    has = record {
      configured = record {
        supported = ap is_supported (same 33 (omega arith)) ∙ a.has.configured.supported;
        width = ap width_of (same 33 (omega arith)) ∙ a.has.configured.width;
        group = ap group_of (same 33 (omega arith)) ∙ a.has.configured.group;
        most = ap most_elements (same 33 (omega arith)) ∙ a.has.configured.most;
        fits = let p = a.has.configured.fits in let e = same 32 (omega arith) in omega (arith, p, e);
      };
      count = same 32 (omega arith) ∙ a.has.count;
    };
    each = λ k b. held-same funcs k f g (same (lane (slot group 0) k) (omega arith)) (same (lane (slot group 1) k) (omega arith)) (a.each k b);
    none = a.none;
  }

  -- one more iteration
  module _ (funcs : Planes) (iterations : ℕ) (up : (k : ℕ) → k + 1 < iterations → (loop_lanes (reads_of setting.inputs funcs) body).steps_up (at k) (at (k + 1))
      ≡ true) (i : ℕ) (less : i < iterations) (f : ℕ → ℕ) (a : Gathered funcs i f) where
    last-or : (j : ℕ) → j < suc i → (j < i) ⊎ (j ≡ i)
    last-or j b = elim (cases_lt j i) [ inl l ↦ inl l | inr m ↦ inr (omega (arith, b, m)) ]

    none-more : (after : ℕ → ℕ) → effects funcs i ≡ None → SameLanes f after → Gathered funcs (suc i) after
    none-more after e same =
        let b = gathered-stay funcs i f after same a in
        record {
          count = b.count;
          few = let q = b.few in omega (arith, q);
          has = b.has;
          each = b.each;
          none = λ j low high. elim (last-or j high) [ inl l ↦ b.none j low l | inr q ↦ ap (effects funcs) q ∙ e ];
        }

    -- all iterations before one that stores have stored
    all-stored : (own_effect : Effect) → effects funcs i ≡ Some own_effect → a.count ≡ i
    all-stored e is = elim (cases_lt a.count i) [
      | inl l ↦
          let d : a.count + (i - a.count) ≡ i = omega (arith, l) in
          let s = all-before (reads_of setting.inputs funcs) body at iterations up (i - a.count) a.count (omega (arith, d, less))
          (subst (λ k. Stored (effects funcs k)) (sym d) (record { stored = e; is = is })) in
          absurd (none-some (sym (a.none a.count (omega arith) l) ∙ s.is))
      | inr m ↦ (let q = a.few in omega (arith, m, q))
    ]

    one-more : (after : ℕ → ℕ) (e : Effect) → effects funcs i ≡ Some e → CollectsOne setting group i e f after → Gathered funcs (suc i) after
    one-more after e is b =
        let c = all-stored e is in
        record {
          count = suc i;
          few = omega arith;
          has = b.marks.has;
          each = λ j lj. elim (last-or j lj) [
            | inl l ↦ held-same funcs j f after (b.marks.pixels_stay j l) (b.marks.addresses_stay j l) (a.each j (omega (arith, l, c)))
            | inr q ↦ subst (λ k. Holds funcs k after) (sym q) (record {
              stored = e;
              is = is;
              written = b.written;
              small = b.small;
              pixel_is =
                  b.marks.pixel_is;
              address_is = b.marks.address_is;
            })
          ];
          none = λ j low high. absurd (omega (arith, low, high));
        }

    pub grows : (after : ℕ → ℕ) (o : Option Effect) → effects funcs i ≡ o → CollectsIf setting group i o f after → Gathered funcs (suc i) after
    grows after None e same = none-more after e same
    grows after (Some own_effect) e b = one-more after own_effect e b

  -- ---- what is stored then

  module _ (funcs : Planes) (n : ℕ) (outside : Values) (f : ℕ → ℕ) (a : Gathered funcs n f) (few : a.count ≤ 16) (zeroed : f 0 ≡ 0)
      (in_runs : StoreRuns setting outside (effects funcs) n) (memory : List ℕ)
      (holds : HoldsFuncs setting memory funcs) where
    abbrev m : ℕ
    m = a.count

    of : OfFunc (reads_of setting.inputs funcs) body
    of = of-func (reads_of setting.inputs funcs) body

    abbrev func : ℕ
    func = of.func

    -- of an iteration that stores
    abbrev made : ℕ → Effect
    made k = of_some (record { func = func; x = 0; y = 0; pixel = 0 }) (effects funcs k)

    abbrev x : ℕ → ℕ
    x k = (made k).x

    abbrev y : ℕ → ℕ
    y k = (made k).y

    abbrev pixel : ℕ → ℕ
    pixel k = (made k).pixel

    made-is : (k : ℕ) (e : Effect) → effects funcs k ≡ Some e → made k ≡ e
    made-is k e is = ap (of_some (record { func = func; x = 0; y = 0; pixel = 0 })) is

    held : (k : ℕ) → k < m → Holds funcs k f
    held k b = a.each k b

    can : (k : ℕ) → k < m → setting.written func (x k) (y k) ≡ true
    can k b =
        let h = held k b in
        subst (λ (e : Effect). setting.written func e.x e.y ≡ true) (sym (made-is k h.stored h.is)) (subst (λ z. setting.written z h.stored.x h.stored.y ≡ true)
        (of.is (at k) h.stored h.is) h.written)

    small : (k : ℕ) → k < m → pixel k < 2 ^ 32
    small k b = let h = held k b in subst (λ (e : Effect). e.pixel < 2 ^ 32) (sym (made-is k h.stored h.is)) h.small

    abbrev spots : ℕ → ℕ
    spots k = address_of w setting.places (func_point func (x k) (y k))

    pixel-there : (k : ℕ) → k < m → f (lane (slot group 0) k) ≡ pixel k
    pixel-there k b = let h = held k b in h.pixel_is ∙ sym (ap (λ (e : Effect). e.pixel) (made-is k h.stored h.is))

    spot-there : (k : ℕ) → k < m → f (lane (slot group 1) k) ≡ spots k
    spot-there k b =
        let h = held k b in
        h.address_is ∙ ap (λ z. address_of w setting.places (func_point z h.stored.x h.stored.y)) (of.is (at k) h.stored h.is)
        ∙ ap (λ (e : Effect). address_of w setting.places (func_point func e.x e.y)) (sym (made-is k h.stored h.is))

    low : (k : ℕ) → k < m → spots k < 2 ^ 32
    low k b = (may setting good func m few x y pixel can small k b).low

    reached : (k : ℕ) → k < m → lanes.add 32 (f 0) (f (lane (slot group 1) k)) ≡ spots k
    reached k b = ap (lanes.add 32 (f 0)) (spot-there k b) ∙ sum-is (f 0) (spots k) zeroed (low k b)

    abbrev pixels_at : ℕ → Option Effect
    pixels_at k = Some (record { func = func; x = x k; y = y k; pixel = pixel k })

    same-pixels : (k : ℕ) → k < m → pixels_at k ≡ effects funcs k
    same-pixels k b =
        let h = held k b in
        let e = made-is k h.stored h.is in
        ap (λ (e : Effect). Some (record { func = func; x = e.x; y = e.y; pixel = e.pixel })) e
        ∙ ap (λ z. Some (record { func = z; x = h.stored.x; y = h.stored.y; pixel = h.stored.pixel })) (sym (of.is (at k) h.stored h.is)) ∙ sym h.is

    -- ---- a run

    hit : (k : ℕ) → k < m → HitBy (effects funcs) n func (x k) (y k)
    hit k b = record {
      lane = k;
      below = (let q = a.few in omega (arith, b, q));
      stored = record { func = func; x = x k; y = y k; pixel = pixel k };
      is = sym (same-pixels k b);
      func_is = refl;
      x_is = refl;
      y_is = refl;
    }

    among : (i j : ℕ) → HitBy (effects funcs) n func i j → IsAmong m x y i j
    among i j h = elim (cases_lt h.lane m) [
      | inl b ↦
          let e = made-is h.lane h.stored h.is in
          record { number = h.lane; below = b; x_is = ap (λ (e : Effect). e.x) e ∙ h.x_is; y_is = ap (λ (e : Effect). e.y) e ∙ h.y_is }
      | inr q ↦ absurd (none-some (sym (a.none h.lane q h.below) ∙ h.is))
    ]

    are-run : 1 ≤ m → setting.in_runs func ≡ true → AreRun setting m func x y
    are-run some is = elim (in_runs func is) [
      | inl none ↦ absurd (none (x 0) (y 0) (hit 0 some))
      | inr run ↦ record { values = outside; each = λ k b. run.each (x k) (y k) (hit k b); all = λ i j t. among i j (run.all i j t) }
    ]

    writable : AllWritable w Word m spots
    writable = elim (cases_lt 0 m) [
      | inl some ↦ all-writable setting good func m few x y pixel can small (are-run some)
      | inr none ↦
          let nothing : (k : ℕ) → k < m → ⊥ = λ k b. omega (arith, b, none) in
          let e : m ≡ 0 = omega (arith, none) in
          record {
            aligned = λ k b. absurd (nothing k b);
            above = λ k b. absurd (nothing k b);
            below = λ k b. absurd (nothing k b);
            may = λ k b. absurd (nothing k b);
            keeps = subst (λ k. Keeps w (touched (accesses_to Word k spots))) (sym e) (keeps-none w);
          }
    ]

    -- ---- the last instruction

    abbrev last_code : List Insn
    last_code = Vector (v.StoreElements Bits32 (slot group 0) 0 (addressings.Indexed (slot group 1)) true) ∷ []

    touches : (i j byte : ℕ) (g : ℕ) → HitBy (effects funcs) n g i j → IsOf w setting.places g i j byte → is_in byte (touched (accesses_to Word m spots)) ≡ true
    touches i j byte g h is = elim (cases_lt h.lane m) [
      | inl b ↦
          let e = made-is h.lane h.stored h.is in
          let ef : func ≡ g = sym (of.is (at h.lane) h.stored h.is) ∙ h.func_is in
          let ex = ap (λ (e : Effect). e.x) e ∙ h.x_is in
          let ey = ap (λ (e : Effect). e.y) e ∙ h.y_is in
          row-touched setting good func m few x y pixel can small h.lane byte b
          (subst (λ z. IsOf w setting.places z (x h.lane) (y h.lane) byte) (sym ef) (subst (λ z. IsOf w setting.places g z (y h.lane) byte) (sym ex)
          (subst (λ z. IsOf w setting.places g i z byte) (sym ey) is)))
      | inr q ↦ absurd (none-some (sym (a.none h.lane q h.below) ∙ h.is))
    ]

    after-all : laid setting.points pixels_at m funcs ≡ laid setting.points (effects funcs) n funcs
    after-all =
        let q = a.few in
        let e : n ≡ (n - m) + m = omega (arith, q) in
        laid-same setting.points pixels_at (effects funcs) m same-pixels funcs
        ∙ sym (laid-cut setting.points (effects funcs) (n - m) m (λ j low high. a.none j low (omega (arith, high, e))) funcs)
        ∙ ap (λ k. laid setting.points (effects funcs) k funcs) (sym e)

    pub stored-does : (keeps_it : ℕ → Type 0) → Does setting last_code 1 f memory keeps_it (laid setting.points (effects funcs) n funcs) (effect_hits (effects funcs) n)
    stored-does keeps_it =
        let lies0 = slot-at group 0 (omega arith) in
        let lies1 = slot-at group 1 (omega arith) in
        let count = a.has.count in
        let can_write : AllWritable w Word (f vl_number) spots = subst (λ k. AllWritable w Word k spots) (sym count) writable in
        let where-is : (k : ℕ) → k < f vl_number → lanes.add 32 (f 0) (f (lane (slot group 1) k)) ≡ spots k = λ k b. reached k (omega (arith, b, count)) in
        let left-is : stored_lanes memory Word (f vl_number) spots (λ k. f (lane (slot group 0) k)) ≡ stored_lanes memory Word m spots pixel =
        ap (λ k. stored_lanes memory Word k spots (λ k. f (lane (slot group 0) k))) count ∙ lanes-same memory m spots (λ k. f (lane (slot group 0) k)) pixel
        pixel-there in
        let line = stores w f memory holds.size (registers group) a.has.configured (addressings.Indexed (slot group 1)) (slot group 0) 0 spots lies0.is_group
        (omega arith) lies1.is_group where-is can_write in
        let row = row-holds setting good func m few x y pixel can small m (omega arith) memory funcs holds in
        record {
          after = f;
          left = stored_lanes memory Word m spots pixel;
          path = λ from s. subst (λ z. Path w from (from + 4) 1 f memory f z) left-is (line from s);
          keeps = λ q kept. refl;
          holds = subst (λ p. HoldsFuncs setting (stored_lanes memory Word m spots pixel) p) after-all row.holds;
          elsewhere = row.elsewhere;
          are_bytes = row.are_bytes;
          writes = λ g i j byte from h is s.
              stores-write w f memory holds.size (registers group) a.has.configured (addressings.Indexed (slot group 1)) (slot group 0) 0 spots lies0.is_group
              (omega arith) lies1.is_group where-is can_write from byte s.0
              (subst (λ k. is_in byte (touched (accesses_to Word k spots)) ≡ true) (sym count) (touches i j byte g h is));
        }
