-- The code of a loop whose iterations collect their pixels does the loop.
use Rattle.std.proofs.Common.{◌≡◌, ℕ, zero, suc, ◌+◌, ◌-◌, ◌*◌, ◌%◌, ◌^◌, ◌<◌, ◌≤◌, List, [], ◌∷◌, ◌++◌, length, true, false, refl, ap, ◌∙◌}
use Rattle.std.proofs.Common.{length-append, sym, subst, arith, inl}
use Rattle.std.specs.Prelude.{◌&&◌, min, Option}
use Rattle.std.proofs.lemmas.Bool.{and_parts}
use Rattle.rv_insn.specs.declared.instructions.Insn.{Insn}
use Rattle.rv_insn.specs.declared.instructions.Insn.TheVariants.{Vector}
use Rattle.rv_insn.specs.declared.vector_instructions.VectorInsn.TheVariants as v
use Rattle.rv_insn.specs.declared.vector_instructions.Addressing.TheVariants as addressings
use Rattle.rv_insn.specs.declared.vector_operations.ElementWidth.TheVariants.{Bits32}
use Rattle.vector_unit.specs.Vector.{most_elements}
use Rattle.halide_pipeline.specs.Pixel.{Planes, reads_of}
use Rattle.loop_ir.specs.declared.expressions.Counter.{Counter}
use Rattle.loop_ir.specs.declared.statements.LoopKind.TheVariants.{Vectorized}
use Rattle.loop_ir.specs.declared.statements.Stmt.{Stmt}
use Rattle.loop_ir.specs.declared.statements.Stmt.TheVariants.{For}
use Rattle.loop_ir.specs.AtOnce.{Effect, effect}
use Rattle.loop_ir.specs.Counters.{Values, with}
use Rattle.loop_ir.specs.LoopLanes.{LoopLanes, loop_lanes, are_apart, all_step_up, is_lane_count, may_be_at_once}
use Rattle.loop_ir.specs.Running.{iterated}
use Rattle.loop_ir.specs.Sizes.{whole_size}
use Rattle.loop_ir.specs.Soundness.{is_sound}
use Rattle.loop_ir.proofs.AtOnce.{in_order}
use Rattle.loop_ir.proofs.LoopLanes.{lanes_of_loop}
use Rattle.loop_ir.proofs.Sizes.{whole_for}
use Rattle.loop_ir.proofs.Sound.{sound_for}
use Rattle.loop_ir.proofs.Trees.{run_for}
use Rattle.multi_hart_laws.specs.Alone.{World}
use Rattle.multi_hart_laws.specs.Paths.{Path, configure, end}
use Rattle.multi_hart_laws.proofs.Configurations.{configure-at}
use Rattle.task_code_scalar.specs.declared.layouts.Places.{Places}
use Rattle.task_code_scalar.specs.Doing.{Setting, IsSetting, SoundIn, HoldsFuncs}
use Rattle.task_code_scalar.specs.Fitting.{total}
use Rattle.task_code_scalar.specs.Words.{Emits}
use Rattle.task_code_scalar.proofs.Looping.{each-iteration}
use Rattle.task_code_scalar.proofs.Spelling.{emits_then}
use Rattle.task_code_scalar.proofs.Tracing.{hit-for}
use Rattle.task_code_lanes.specs.declared.groups.LaneGroup.{LaneGroup}
use Rattle.task_code_lanes.specs.Groups.{registers, slot, vtype_of}
use Rattle.task_code_lanes.proofs.Configured.{supported, few-lanes, has-lanes, configured-others}
use Rattle.task_code_lanes.proofs.Effects.{effect_hits, laid}
use Rattle.task_code_lanes.proofs.Runs.{loop-runs}
use Rattle.task_code_lanes.proofs.Storing.{hits-at-once}
use Rattle.task_code_registers.specs.declared.scopes.Held.{Held}
use Rattle.task_code_registers.specs.Emitting.{HoldsVariable}
use Rattle.task_code_registers.specs.Holding.{IsLoopInvariant, mentions, varying}
use Rattle.task_code_registers.specs.Registers.{may_hold}
use Rattle.task_code_registers.specs.Scopes.{AreHolders, IsKept, Knows, are_registers}
use Rattle.task_code_registers.proofs.Advancing.{scopes-stay}
use Rattle.task_code_registers.proofs.Going.{Does, Marked, no_hits, still, went-hits, went-is}
use Rattle.task_code_registers.proofs.Knowing.{kept-low, knows-still, knows-zero, may-hold}
use Rattle.task_code_loops.specs.declared.beginning.BegunLoop.{BegunLoop}
use Rattle.task_code_loops.specs.Beginning.{IsBegun}
use Rattle.task_code_loops.specs.Ending.{EndsLoop, Advanced}
use Rattle.task_code_loops.proofs.Knowledge.{knows-with, stands-at}
use Rattle.task_code_loops.proofs.Repeating.{loop-goes}
use Rattle.task_code_loops.proofs.Returning.{emits-longer}
use Rattle.task_code_values.proofs.Saving.{did-went, does-then}
use Rattle.task_code_statements.specs.AtOnce.{MayRun}
use Rattle.task_code_variables.specs.Collecting.{Collects, CollectsIf}
use Rattle.task_code_variables.specs.Renaming.{StandFor, numbered}
use Rattle.task_code_variables.specs.Statements.{AppendsStatement}
use Rattle.task_code_variables.proofs.Entering.{kept-variable}
use Rattle.task_code_variables.proofs.Gathering.{Gathered, gathered-stay, grows, stored-does}
use Rattle.task_code_variables.proofs.Nesting.{room-vector, stand-with}

no-iterations : (n : ℕ) (funcs : Planes) → iterated n (λ (i : ℕ) (p : Planes). p) funcs ≡ funcs
unfolding iterated
no-iterations zero funcs = refl
no-iterations (suc n) funcs = no-iterations n funcs

zero-least : (n : ℕ) → min 0 n ≡ 0
zero-least n = omega arith

-- ---- lanes stay while the next iteration's numbers are made

pub lanes-loop_invariant : (counter : Counter) (inner : List Held) (q : ℕ) → are_registers inner ≡ true → 32 ≤ q → IsLoopInvariant counter inner q
lanes-loop_invariant counter [] q all high = ((λ e. omega (arith, e, high)), (λ e. omega (arith, e, high)))
lanes-loop_invariant counter (own ∷ others) q all high =
    let k = and_parts (may_hold own.register) (are_registers others) all in
    let m = may-hold own.register k.0 in
    let low = m.high in
    ((λ h e. omega (arith, e, high, low)), lanes-loop_invariant counter others q k.1 high)

module _ (places : Places) (scope : List Held) (around : List Counter) (group : LaneGroup) (counter : Counter) (body : Stmt) (begun : BegunLoop) (r : ℕ)
    (reserved : ℕ) (c0 c1 c2 c3 c4 c5 : List ℕ)
    (none : mentions (numbered (length around)) scope ≡ false)
    (begins : IsBegun c0 c1 16 (numbered (length around)) (4 * registers group) scope reserved begun)
    (moves : varying begun.counter begun.inner.items ≤ 1) (all : are_registers begun.inner.items ≡ true)
    (held : HoldsVariable begun.inner.items (numbered (length around)) r)
    (sets : Emits c1 c2 (Vector (v.Vsetivli 0 0 (vtype_of group)) ∷ []))
    (x : Collects c2 c3 places begun.inner.items (counter ∷ around) group r body)
    (ends : EndsLoop c3 c4 begun (length c3 - length c2)) where
  abbrev number : Counter
  number = numbered (length around)

  abbrev count : ℕ
  count = 4 * registers group

  abbrev inner : List Held
  inner = begun.inner.items

  abbrev cfg : List Insn
  cfg = Vector (v.Vsetivli 0 0 (vtype_of group)) ∷ []

  abbrev looped : List Insn
  looped = x.insns ++ ends.insns

  abbrev last : List Insn
  last = Vector (v.StoreElements Bits32 (slot group 0) 0 (addressings.Indexed (slot group 1)) true) ∷ []

  long : length x.insns ≡ length c3 - length c2
  long = let n = emits-longer c2 c3 x.insns x.emits in omega (arith, n)

  few-sixteen : count ≤ 16
  few-sixteen = few-lanes group

  some : 1 ≤ count
  some = let s = begins.ends.some in let e = begins.count_is in omega (arith, s, e)

  abbrev once : Values → ℕ → ℕ
  once numbers i = x.turns (with number i numbers)

  module _ (own : Setting) (good : IsSetting own) (at-places : own.places ≡ places) (values numbers : Values) (stand : StandFor around values numbers)
      (holders : AreHolders scope) (may : MayRun own (For counter count Vectorized body) values) (funcs : Planes) where
    abbrev w : World
    w = own.world

    abbrev hart : ℕ
    hart = own.world.hart

    abbrev at : ℕ → Values
    at k = with counter k values

    inner-holders : AreHolders inner
    inner-holders = begins.enters.holders holders

    each-sound : (k : ℕ) → k < count → SoundIn own body (at k)
    each-sound k l p words = each-iteration count (λ iteration. is_sound (reads_of own.inputs p) own.written own.loaded body (at iteration))
        (sym (sound_for (reads_of own.inputs p) own.written own.loaded counter count Vectorized body values) ∙ may.sound p words) k l

    abbrev effect_of : Planes → ℕ → Option Effect
    effect_of p k = effect (reads_of own.inputs p) body (at k)

    record Apart : Type 0 where
      one : (loop_lanes (reads_of own.inputs funcs) body).is_one_store ≡ true
      apart : are_apart (loop_lanes (reads_of own.inputs funcs) body) at count ≡ true
      up : all_step_up (loop_lanes (reads_of own.inputs funcs) body) at count ≡ true

    apart-parts : may_be_at_once (reads_of own.inputs funcs) (For counter count Vectorized body) values ≡ true → Apart
    apart-parts once_all =
        let r = loop_lanes (reads_of own.inputs funcs) body in
        let e = sym (ap (λ (own : LoopLanes). own.may_be_at_once values) (lanes_of_loop (reads_of own.inputs funcs) counter count Vectorized body)) ∙ once_all in
        let a = and_parts (is_lane_count count && (r.is_one_store && (are_apart r at count && all_step_up r at count))) _ e in
        let b = and_parts (is_lane_count count) _ a.0 in
        let d = and_parts r.is_one_store (are_apart r at count && all_step_up r at count) b.1 in
        let g = and_parts (are_apart r at count) (all_step_up r at count) d.1 in
        record { one = d.0; apart = g.0; up = g.1 }

    module _ (facts : Apart) where
      steps : (k : ℕ) → k + 1 < count → (loop_lanes (reads_of own.inputs funcs) body).steps_up (at k) (at (k + 1)) ≡ true
      steps k b = each-iteration (count - 1) (λ lane. (loop_lanes (reads_of own.inputs funcs) body).steps_up (at lane) (at (lane + 1))) facts.up k (omega (arith, b))

      -- what is so before an iteration, where buffers hold what they held at first
      record Before (p : Planes) (i : ℕ) (g : ℕ → ℕ) : Type 0 where
        same : p ≡ funcs
        knows : Knows hart inner (with number i numbers) g
        gathered : Gathered own good group body at funcs i g

      -- and after it
      record Behind (p : Planes) (i : ℕ) (g : ℕ → ℕ) : Type 0 where
        same : p ≡ funcs
        knows : Knows hart inner (with number i numbers) g
        gathered : Gathered own good group body at funcs (suc i) g

      stays : (q : ℕ) → IsKept scope q → IsKept inner q × IsLoopInvariant begun.counter inner q
      stays q h = scopes-stay begun.counter scope inner begins.enters.extends (ap (λ c. mentions c scope) begins.counter_is ∙ none) inner-holders q h

      iteration : (i : ℕ) (g : ℕ → ℕ) (m : List ℕ) (p : Planes) → i < count → HoldsFuncs own m p → Before p i g
          → Marked own (Behind p i) x.insns (λ z. z) (λ z. end z x.insns) (once numbers i) g m (IsKept scope) p no_hits
      iteration i g m p l holds a =
          let er : g r ≡ i =
          held.value hart (with number i numbers) g a.knows ∙ ap (λ n. n % 2 ^ 32) (stands-at number i numbers)
          ∙ small i (let few = few-sixteen in omega (arith, l, few)) in
          let kept = kept-variable inner number r hart (with number i numbers) g held a.knows in
          let b = x.does own good at-places (at i) (with number i numbers) (stand-with around counter values numbers i stand) inner-holders (each-sound i l)
          kept i l g m p holds a.knows er in
          record {
            went = record {
              after = b.did.after;
              left = b.did.left;
              path = b.did.block;
              keeps = λ q h. b.did.keeps q (stays q h).0;
              holds = b.did.holds;
              elsewhere = b.did.elsewhere;
              are_bytes = b.did.are_bytes;
              writes = λ func j k byte from hit. absurd hit;
            };
            mark = record {
              same = a.same;
              knows = knows-still hart inner (with number i numbers) g b.did.after b.did.keeps a.knows;
              gathered = grows own good group body at funcs count steps i l g a.gathered b.did.after (effect_of funcs i) refl
                  (subst (λ z. CollectsIf own group i (effect_of z i) g b.did.after) a.same b.collects);
            };
          }
        where
          small : (n : ℕ) → n < 16 → n % 2 ^ 32 ≡ n
          small n b = omega (arith, b)

      advanced : (i : ℕ) (g : ℕ → ℕ) (m : List ℕ) (p : Planes) → i < count → length m ≡ w.size → Behind p i g
          → Advanced w (IsKept scope) (Before p (suc i)) count x.insns ends.insns i (ends.cost i) g m
      advanced i g m p l size a =
          let ec = begins.counter_is in
          let t = ends.advanced w hart numbers x.insns i g m long inner-holders (let e = begins.count_is in omega (arith, l, e)) size
          (subst (λ c. Knows hart inner (with c i numbers) g) (sym ec) a.knows) in
          record {
            after = t.after;
            keeps = λ q h. t.keeps q (stays q h).1;
            mark = record {
              same = a.same;
              knows = subst (λ c. Knows hart inner (with c (suc i) numbers) t.after) ec t.mark;
              gathered = gathered-stay own good group body at funcs (suc i) g t.after
                  (λ q high. t.keeps q (lanes-loop_invariant begun.counter inner q all high)) a.gathered;
            };
            again = λ more. t.again (let e = begins.count_is in omega (arith, more, e));
            leaves = λ last. t.leaves (let e = begins.count_is in omega (arith, last, e));
          }

      module _ (f : ℕ → ℕ) (memory : List ℕ) (holds : HoldsFuncs own memory funcs) (knows : Knows hart scope numbers f) where
        abbrev after0 : ℕ → ℕ
        after0 = (begins.enters.does w memory hart numbers f holds.size holders (knows-with number 0 hart scope numbers f none knows)).after

        keeps0 : (q : ℕ) → IsKept scope q → after0 q ≡ f q
        keeps0 = (begins.enters.does w memory hart numbers f holds.size holders (knows-with number 0 hart scope numbers f none knows)).keeps

        knows0 : Knows hart inner (with number 0 numbers) after0
        knows0 = (begins.enters.does w memory hart numbers f holds.size holders (knows-with number 0 hart scope numbers f none knows)).mark

        abbrev one : Does own begins.enters.insns (length begins.enters.insns) f memory (IsKept scope) funcs no_hits
        one = still own (λ z. z) (λ z. end z begins.enters.insns) (length begins.enters.insns) after0 holds keeps0
            (begins.enters.does w memory hart numbers f holds.size holders (knows-with number 0 hart scope numbers f none knows)).line

        -- no lane is configured
        abbrev after1 : ℕ → ℕ
        after1 = configure after0 0 (vtype_of group)

        keeps1 : (q : ℕ) → IsKept inner q → after1 q ≡ after0 q
        keeps1 q h = configured-others after0 0 (vtype_of group) q (kept-low inner q all h)

        abbrev two : Does own cfg 1 after0 memory (IsKept scope) funcs no_hits
        two = still own (λ z. z) (λ z. end z cfg) 1 after1 holds (λ q h. keeps1 q (stays q h).0) (λ from s.
            subst (λ k. Path w from (from + 4) 1 after0 memory (configure after0 k (vtype_of group)) memory) (zero-least (most_elements (vtype_of group)))
            (configure-at w after0 memory holds.size 0 (vtype_of group) (supported group) from s))

        first : Before funcs 0 after1
        first = record {
          same = refl;
          knows = knows-still hart inner (with number 0 numbers) after0 after1 keeps1 knows0;
          gathered = record {
            count = 0;
            few = omega arith;
            has = has-lanes group after0 0 (omega arith);
            each = λ k b. absurd (omega (arith, b));
            none = λ k low high. absurd (omega (arith, high));
          };
        }

        three : Marked own (Before (iterated count (λ i p. p) funcs) count) looped (λ z. z) (λ z. end z looped)
            (total count (λ i. once numbers i + ends.cost i)) after1 memory (IsKept scope) (iterated count (λ i p. p) funcs) no_hits
        three = loop-goes own (IsKept scope) Before Behind count x.insns ends.insns (once numbers) ends.cost (λ i p. p) (λ i p. no_hits) iteration advanced
            (λ i p. no_hits) (λ p func j k h. h) (λ i p func j k h. inl h) some after1 memory funcs holds first

        abbrev done : Does own looped (total count (λ i. once numbers i + ends.cost i)) after1 memory (IsKept scope) funcs no_hits
        done = went-is own refl (no-iterations count funcs) three.went

        gathered : Gathered own good group body at funcs count done.after
        gathered = three.mark.gathered

        four : Does own last 1 done.after done.left (IsKept scope) (laid own.points (effect_of funcs) count funcs)
            (effect_hits (effect_of funcs) count)
        four =
            let few = gathered.few in
            let most = few-sixteen in
            stored-does own good group body at funcs count values done.after gathered (omega (arith, few, most))
            (knows-zero hart inner (with number count numbers) done.after three.mark.knows)
            (loop-runs own counter count body values may.in_runs (reads_of own.inputs funcs) facts.one funcs holds.are_words) done.left done.holds
            (IsKept scope)

        stores : Does own (begins.enters.insns ++ (cfg ++ (looped ++ last)))
            (length begins.enters.insns + (1 + (total count (λ i. once numbers i + ends.cost i) + 1))) f memory (IsKept scope)
            (laid own.points (effect_of funcs) count funcs) (effect_hits (effect_of funcs) count)
        stores = does-then own good values one (does-then own good values two (does-then own good values done four))

  pub loop-collects : Emits c4 c5 last → AppendsStatement c0 c5 places scope around (For counter count Vectorized body)
  loop-collects stored = record {
    insns = begins.enters.insns ++ (cfg ++ (looped ++ last));
    emits = emits_then begins.enters.emits (emits_then sets (emits_then (emits_then x.emits ends.emits) stored));
    short =
        let n1 = length-append begins.enters.insns (cfg ++ (looped ++ last)) in
        let n2 = length-append looped last in
        let n3 = length-append x.insns ends.insns in
        let s1 = begins.enters.short in
        let s2 = x.short in
        let s3 = ends.short in
        let w = whole_for counter count Vectorized body in
        let r = room-vector count (whole_size body) in
        omega (arith, n1, n2, n3, s1, s2, s3, w, r, moves);
    turns = λ numbers. length begins.enters.insns + (1 + (total count (λ i. once numbers i + ends.cost i) + 1));
    does = λ own good at-places values numbers stand holders may f memory funcs holds knows.
        let at = λ (k : ℕ). with counter k values in
        let facts = apart-parts own good at-places values numbers stand holders may funcs (may.at_once funcs holds.are_words) in
        let same = run_for own.points own.inputs counter count Vectorized body values funcs
        ∙ in_order own.points own.inputs body at funcs count facts.one facts.apart in
        did-went (went-hits own (λ func i j h. hits-at-once own.points own.inputs body at funcs facts.one count facts.apart func i j
        (sym (hit-for own.points own.inputs func i j counter count Vectorized body values funcs) ∙ h))
        (went-is own refl (sym same) (stores own good at-places values numbers stand holders may funcs facts f memory holds knows)));
  }
