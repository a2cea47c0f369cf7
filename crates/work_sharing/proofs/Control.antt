-- The turns outside tasks.
use Rattle.multi_hart_laws.specs.Alone.{Covers, Says}
use Rattle.std.proofs.Common.{◌≡◌, ℕ, suc, ◌+◌, ◌%◌, ◌^◌, ◌<◌, ◌≤◌, List, [], ◌∷◌, length, set, Option, Some, None, true, false, refl, ap, ◌∙◌, sym, subst}
use Rattle.std.proofs.Common.{arith, inl, inr, length-set, get_or-set_other}
use Rattle.std.specs.Prelude.{◌≢◌, ◌⊎◌, ◌==◌, not, if◌then◌else◌, slice_get, slice_index, nat_lt, cond, pos}
use Rattle.std.proofs.lemmas.Bool.{cases_eq, cases_lt}
use Rattle.std.proofs.lemmas.Bool.Decides.{nat_tests}
use Rattle.std.proofs.lemmas.List.{get_or-set_same}
use Rattle.std.proofs.Math.Nat.{mod-eq_of_lt}
use Rattle.std.proofs.lemmas.Option.{slice_get_within}
use Rattle.rv_insn.specs.declared.outcomes.Trap.TheVariants.{MisalignedTarget}
use Rattle.rv_insn.specs.declared.outcomes.Outcome.{Outcome}
use Rattle.rv_insn.specs.declared.outcomes.Outcome.TheVariants.{Stepped, Finished, Idle}
use Rattle.rv_insn.specs.declared.instructions.Insn.{Insn}
use Rattle.rv_insn.specs.declared.instructions.Insn.TheVariants.{AmoaddW, Branch, Load, Ecall}
use Rattle.rv_insn.specs.declared.operations.BranchOp.TheVariants.{Bgeu, Bne}
use Rattle.rv_insn.specs.declared.operations.LoadOp.TheVariants.{Lw}
use Rattle.rv_encoding.specs.Decoding.{decoded}
use Rattle.memory.specs.Access.{data_start, byte_at, fetched, NotIn, Word, Reads, Updates, word_at, put_number, first_fault, touched, or_else, spread}
use Rattle.memory.proofs.Putting.{byte-put}
use Rattle.memory.proofs.Words.{word-put, word-other}
use Rattle.memory.proofs.StaysBytes.{none-bytes, spread-bytes}
use Rattle.hart_core.specs.declared.harts.Status.TheVariants.{Finished as Done}
use Rattle.hart_core.specs.HartState.{HartState, advanced, at_pc, given, with_status}
use Rattle.hart_core.specs.Scalar.{one_access, jump_of, jump_fault, jumped, offset_from, plus}
use Rattle.hart_core.specs.Turn.{Does, Rests, Effect, next_of, effect, if_running, due}
use Rattle.multi_hart.specs.Run.{State, turn, writes, Within}
use Rattle.multi_hart_laws.specs.Uses.{Use, Control, Fixed, Owned, Private, Task, Setup, Given}
use Rattle.work_sharing.specs.Phases.{Phase, Kept, Stands, IsControl, Code, HasGate, HasEnd}
use Rattle.work_sharing.specs.Solo.{Begins, TaskDone, TaskWrites}
use Rattle.work_sharing.specs.Programs.{Link}
use Rattle.work_sharing.specs.Turns.{written_next, written_by_one}
use Rattle.work_sharing.proofs.Roles.{Role, Before, Asked, Drawing, Drew, Inside, Adding, Looking, Looked, Leaving, Over, Has, is_past, has_added}
use Rattle.work_sharing.proofs.Roles.{total, Holds, Inv, Becomes, Turned}
use Rattle.work_sharing.proofs.Keeping.{Move, next, slice_get-set_same, total-set}
use Rattle.work_sharing.proofs.Turning.{effect-does, next-by, next-does, turn-is, total-same, inside-turn}

amo-ok : (w n a : ℕ) → a % 4 ≡ 0 → data_start ≤ a → a + 4 ≤ data_start + n → or_else (first_fault w n Updates (one_access Word a)) None ≡ None
amo-ok w n a e l h = grind (arith, nat_tests)

load-ok : (w n a : ℕ) → a % 4 ≡ 0 → data_start ≤ a → a + 4 ≤ data_start + n → or_else (first_fault w n Reads (one_access Word a)) None ≡ None
load-ok w n a e l h = grind (arith, nat_tests)

abbrev pub wrap : ℕ → ℕ
wrap n = n % 2 ^ 32

pub kept-set : (p : Phase) (k : ℕ) (xs : List ℕ) (vs : List (List ℕ)) (r v : ℕ) → 10 ≢ r → 11 ≢ r → 13 ≢ r → 14 ≢ r → 15 ≢ r → 16 ≢ r → Kept p k xs vs
    → Kept p k (set xs r v) vs
kept-set p k xs vs r v a b c d e f o = record {
  size = length-set xs r v ∙ o.size;
  vector_count = o.vector_count;
  vector_bytes = o.vector_bytes;
  number = get_or-set_other xs r 10 v 0 a ∙ o.number;
  harts = get_or-set_other xs r 11 v 0 b ∙ o.harts;
  ticket = get_or-set_other xs r 13 v 0 c ∙ o.ticket;
  gate = get_or-set_other xs r 14 v 0 d ∙ o.gate;
  one = get_or-set_other xs r 15 v 0 e ∙ o.one;
  tasks = get_or-set_other xs r 16 v 0 f ∙ o.tasks;
}

pub wrap-fits : (n : ℕ) → n < 2 ^ 32 → wrap n ≡ n
wrap-fits n h = mod-eq_of_lt h

pub wrap-to : (n m : ℕ) → n ≡ m → m < 2 ^ 32 → wrap n ≡ m
wrap-to n m e h = ap wrap e ∙ wrap-fits m h

pub total-most : (f : Role → ℕ) → ((r : Role) → f r ≤ 1) → (rs : List Role) → total f rs ≤ length rs
total-most f le [] = omega arith
total-most f le (r ∷ rs) = let a = le r in let b = total-most f le rs in omega (arith, a, b)

past-most : (n : ℕ) (r : Role) → is_past n r ≤ 1
past-most n Before = omega arith
past-most n (Asked g) = omega arith
past-most n Drawing = omega arith
past-most n (Drew v) = grind (arith, nat_tests)
past-most n (Inside t j m) = omega arith
past-most n Adding = omega arith
past-most n Looking = omega arith
past-most n (Looked g) = omega arith
past-most n Leaving = omega arith
past-most n Over = omega arith

pub added-most : (r : Role) → has_added r ≤ 1
added-most Before = omega arith
added-most (Asked g) = omega arith
added-most Drawing = omega arith
added-most (Drew v) = omega arith
added-most (Inside t j m) = omega arith
added-most Adding = omega arith
added-most Looking = omega arith
added-most (Looked g) = omega arith
added-most Leaving = omega arith
added-most Over = omega arith

pub gate-plus : (p : Phase) (c : Code p) → plus p.gate (pos 0) ≡ p.gate
gate-plus p c = wrap-to (p.gate + 0) p.gate (omega arith) (let x = c.gates.below in let y = c.size in omega (arith, x, y))

-- what an amoadd.w leaves
abbrev amo-effect : HartState → ℕ → ℕ → ℕ → ℕ → Effect
amo-effect h rd old a add = record {
  hart = given h rd old;
  places = touched (one_access Word a);
  bytes = spread (one_access Word a) (wrap (old + add) ∷ []);
  outcome = Stepped;
}

is-below : (v n : ℕ) → v < n → not (nat_lt v n) ≡ false
is-below v n h = grind (arith, nat_tests)

not-below : (v n : ℕ) → n ≤ v → not (nat_lt v n) ≡ true
not-below v n h = grind (arith, nat_tests)

past-drew-in : (n v : ℕ) → v < n → is_past n (Drew v) ≡ 0
past-drew-in n v h = grind (arith, nat_tests)

past-drew-out : (n v : ℕ) → n ≤ v → is_past n (Drew v) ≡ 1
past-drew-out n v h = grind (arith, nat_tests)

module _ (z p : Phase) (c : Code p) (roles : List Role) (top : ℕ) (s : State) (k : ℕ) (h : HartState) (v : Inv z p roles top s) (eh : slice_get s.harts k
    ≡ Some h) where
  top-small : top + 1 < 2 ^ 32
  top-small = let a = total-most (is_past p.tasks) (past-most p.tasks) roles in let b = v.bound in let d = c.few in let e = v.same in let f = v.many in
      omega (arith, a, b, d, e, f)

  shut-small : total has_added roles + 1 < 2 ^ 32
  shut-small = let a = total-most has_added added-most roles in let d = c.few in let e = v.same in let f = v.many in omega (arith, a, d, e, f)

  in-size : (a : ℕ) → IsControl p a → a + 4 ≤ data_start + length s.memory
  in-size a i = let x = i.below in let y = v.size in omega (arith, x, y)

  -- the draw
  module _ (er : slice_get roles k ≡ Some Drawing) where
    st : Stands p k h p.draw_code
    st = v.holds k Drawing h er eh

    draw-next : next_of p.text p.size h ≡ Does (AmoaddW 12 13 15 false false)
    draw-next = next-does p k h p.draw_code (AmoaddW 12 13 15 false false) st c.draw
        (ap (λ a. or_else (first_fault (length p.text) p.size Updates (one_access Word a)) None) st.kept.ticket
        ∙ amo-ok (length p.text) p.size p.ticket c.tickets.aligned c.tickets.above c.tickets.below)

    draw-effect : effect p.text s.memory h ≡ amo-effect h 12 top p.ticket 1
    draw-effect =
        effect-does p s.memory h (Does (AmoaddW 12 13 15 false false)) v.size draw-next
        ∙ ap (λ a. amo-effect h 12 (word_at p.text s.memory a) a (slice_index h.registers 15)) st.kept.ticket
        ∙ ap (λ a. amo-effect h 12 a p.ticket (slice_index h.registers 15)) v.tickets ∙ ap (amo-effect h 12 top p.ticket) st.kept.one

    abbrev de : Effect
    de = amo-effect h 12 top p.ticket 1

    more-past : top + 1 ≤ p.tasks + total (is_past p.tasks) (set roles k (Drew top))
    more-past =
        let u = total-set (is_past p.tasks) roles k Drawing (Drew top) er in
        let q = v.bound in
        elim (cases_lt top p.tasks) [
          | inl lt ↦ let w = past-drew-in p.tasks top lt in omega (arith, u, q, w, lt)
          | inr le ↦ let w = past-drew-out p.tasks top le in omega (arith, u, q, w, le)
        ]

    draw-move : Move z p roles top s.memory k Drawing (Drew top) (top + 1) de.hart de.places de.bytes
    draw-move = record {
      more = omega arith;
      adds = omega arith;
      touch = (
        (c.tickets.first, (omega arith, let q = c.two_words in omega (arith, q))),
        (
          (c.tickets.second, (omega arith, let q = c.two_words in omega (arith, q))),
          (
            (c.tickets.third, (omega arith, let q = c.two_words in omega (arith, q))),
            ((c.tickets.fourth, (omega arith, let q = c.two_words in omega (arith, q))), tt),
          ),
        ),
      );
      bytes = spread-bytes (one_access Word p.ticket) (wrap (top + 1) ∷ []);
      holds = (
        record {
          running = st.running;
          pc = ap (λ a. wrap (a + 4)) st.pc ∙ wrap-fits (p.draw_code + 4) (let q = c.draw_fits in omega (arith, q));
          kept = kept-set p k h.registers h.vectors 12 top (omega arith) (omega arith) (omega arith) (omega arith) (omega arith) (omega arith) st.kept;
        },
        (
          get_or-set_same h.registers 12 top 0 (let q = st.kept.size in omega (arith, q)),
          (
            omega arith,
            λ a e. byte-put p.text s.memory de.places de.bytes a (not-control a de.places e
                (c.tickets.first, (c.tickets.second, (c.tickets.third, (c.tickets.fourth, tt))))) ∙ v.waiting a top e (omega arith),
          ),
        ),
      );
      tickets = ap (λ n. word_at p.text (put_number s.memory Word p.ticket n) p.ticket) (wrap-fits (top + 1) top-small)
          ∙ word-put p.text s.memory p.ticket (top + 1) c.tickets.above (in-size p.ticket c.tickets) top-small;
      gates = word-other p.text s.memory p.ticket (wrap (top + 1)) p.gate (inr (let q = c.two_words in omega (arith, q))) ∙ v.gates
          ∙ sym (total-same has_added roles k Drawing (Drew top) er refl);
      bound = more-past;
      new = λ t e. inr (omega (arith, e));
      drawn = λ t a b. omega (arith, a, b);
      old = λ t a e. absurd e;
    }
      where
        not-control : (a : ℕ) (ps : List ℕ) → p.uses a ≡ Owned top → Within (λ q. p.uses q ≡ Control) ps → NotIn a ps
        not-control a [] e w = tt
        not-control a (q ∷ ps) e w = ((λ d. let x : Control ≡ Owned top = sym w.0 ∙ ap p.uses (sym d) ∙ e in cc x), not-control a ps e w.1)

    pub draw-turn : Turned z p roles top k Drawing (turn s k)
    draw-turn = record {
      role = Drew top;
      top = top + 1;
      becomes = (refl, refl);
      inv = subst (Inv z p _ (top + 1))
          (sym (turn-is p s k h de v.text eh draw-effect)) (next z p c.two_words roles top s k Drawing h v er eh (Drew top) (top + 1) de.hart de.places de.bytes
          draw-move);
    }

  -- a turn that writes nothing, and neither draws nor adds
  abbrev still : (r r1 : Role) (h1 : HartState) (o : Outcome) → slice_get roles k ≡ Some r → has_added r ≡ has_added r1 → is_past p.tasks r ≡ is_past p.tasks r1
      → Holds z p top (total has_added roles) s.memory k h1 r1 → ((t : ℕ) → Has r1 t → Has r t) → ((t : ℕ) → t < p.tasks → Has r t → Has r1 t)
      → effect p.text s.memory h ≡ record { hart = h1; places = []; bytes = []; outcome = o } → Becomes p top (total has_added roles) r r1 top
      → Turned z p roles top k r (turn s k)
  still r r1 h1 o er ea ep hold new old ef bec =
      let same = total-same has_added roles k r r1 er ea in
      let past = total-same (is_past p.tasks) roles k r r1 er ep in
      let move : Move z p roles top s.memory k r r1 top h1 [] [] = record {
        more = omega arith;
        adds = omega (arith, ea);
        touch = tt;
        bytes = none-bytes;
        holds = subst (λ n. Holds z p top n s.memory k h1 r1) (sym same) hold;
        tickets = v.tickets;
        gates = v.gates ∙ sym same;
        bound = let q = v.bound in omega (arith, q, past);
        new = λ t e. inl (new t e);
        drawn = λ t a b. absurd (omega (arith, a, b));
        old = λ t l e. inl (old t l e);
      } in
      record {
        role = r1;
        top = top;
        becomes = bec;
        inv = subst (Inv z p _ top) (sym (turn-is p s k h (record {
          hart = h1;
          places = [];
          bytes = [];
          outcome =
              o;
        }) v.text eh ef)) (next z p c.two_words roles top s k r h v er eh r1 top h1 [] [] move);
      }

  -- the test of what was drawn
  module _ (drew : ℕ) (er : slice_get roles k ≡ Some (Drew drew)) (task-done : TaskDone p) (behind : HasGate p ⊎ HasEnd p) where
    th : Holds z p top (total has_added roles) s.memory k h (Drew drew)
    th = v.holds k (Drew drew) h er eh

    abbrev test : Insn
    test = Branch Bgeu 12 16 c.out

    jump-is : jump_of test h ≡ cond (not (nat_lt drew p.tasks)) (Some p.door) None
    jump-is =
        ap (λ n. cond (not (nat_lt (slice_index h.registers 12) n)) (Some (offset_from h.pc c.out)) None) th.0.kept.tasks
        ∙ ap (λ n. cond (not (nat_lt n p.tasks)) (Some (offset_from h.pc c.out)) None) th.1.0
        ∙ ap (λ n. cond (not (nat_lt drew p.tasks)) (Some (offset_from n c.out)) None) th.0.pc
        ∙ ap (λ n. cond (not (nat_lt drew p.tasks)) (Some n) None) c.out_is

    test-effect : (o : Option ℕ) → jump_of test h ≡ o → or_else (jump_fault o) None ≡ None
        → effect p.text s.memory h ≡ record { hart = jumped h o; places = []; bytes = []; outcome = Stepped }
    test-effect o e f =
        effect-does p s.memory h (Does test) v.size (next-does p k h (p.draw_code + 4) test th.0 c.test (ap (λ q. or_else (jump_fault q) None) e ∙ f))
        ∙ ap (λ q. record { hart = jumped h q; places = []; bytes = []; outcome = Stepped }) e

    was-given : (u : Use) (a : ℕ) → p.uses a ≡ u → Given drew u → byte_at p.text s.memory a ≡ p.start a
    was-given Control a e g = absurd g
    was-given Fixed a e g = v.fixed a e
    was-given (Owned t) a e g = th.1.1.1 a (e ∙ ap (λ q. Owned q) g)
    was-given (Private l) a e g = absurd g

    stands-in : Stands p k (advanced h) (p.draw_code + 8)
    stands-in = record {
      running = th.0.running;
      pc = ap (λ a. wrap (a + 4)) th.0.pc ∙ wrap-to (p.draw_code + 4 + 4) (p.draw_code + 8) (omega arith) (let q = c.draw_fits in omega (arith, q));
      kept = th.0.kept;
    }

    in-range : k < p.harts
    in-range = let q = slice_get_within s.harts k h eh in let n = v.many in omega (arith, q, n)

    begins : drew < p.tasks → Begins p drew k (advanced h) s.memory
    begins lt = record {
      task_is = lt;
      number_is = in-range;
      stands = stands-in;
      drawn = th.1.0;
      size = v.size;
      bytes = v.bytes;
      given =
          λ a g. was-given (p.uses a) a refl g;
    }

    abbrev test-in : drew < p.tasks → Turned z p roles top k (Drew drew) (turn s k)
    test-in lt =
        let solo = task-done drew k (advanced h) s.memory (begins lt) in
        let no = is-below drew p.tasks lt in
        still (Drew drew) (Inside (Task drew) (p.turns (Task drew)) s.memory) (advanced h) Stepped er refl (past-drew-in p.tasks drew lt)
        (record { drawn = (lt, th.1.1.0); size = v.size; agree = λ a e. refl; soon = solo })
        (λ t e. e) (λ t l e. e) (test-effect None (jump-is ∙ ap (λ b. cond b (Some p.door) None) no) refl) (refl, inl (lt, (s.memory, refl)))

    pub entered : (tw : TaskWrites p) (lt : drew < p.tasks) → Inv z p (set roles k (Inside (Task drew) (p.turns (Task drew)) s.memory)) top (turn s k)
        × (slice_get (turn s k).harts k ≡ Some (advanced h)) × ((a : ℕ) → p.uses a ≡ Owned drew → p.writes drew a ≡ true
        → Covers p.text p.size (suc (p.turns (Task drew))) (advanced h) s.memory a)
    entered tw lt =
        let no = is-below drew p.tasks lt in
        let ef = test-effect None (jump-is ∙ ap (λ b. cond b (Some p.door) None) no) refl in (
          (test-in lt).inv,
          ap (λ x. slice_get x.harts k) (turn-is p s k h (record { hart = advanced h; places = []; bytes = []; outcome = Stepped }) v.text eh ef)
              ∙ slice_get-set_same s.harts k h (advanced h) eh,
          tw drew k (advanced h) s.memory (begins lt),
        )

    out-effect : p.tasks ≤ drew → effect p.text s.memory h ≡ record { hart = at_pc h p.door; places = []; bytes = []; outcome = Stepped }
    out-effect le =
        let yes = not-below drew p.tasks le in
        test-effect (Some p.door) (jump-is ∙ ap (λ b. cond b (Some p.door) None) yes) (ap (λ n. or_else (if n == 0 then None else Some MisalignedTarget) None)
        c.aligned)

    at-door : p.tasks ≤ drew → Stands p k (at_pc h p.door) p.door × (p.tasks < top)
    at-door le = (record { running = th.0.running; pc = refl; kept = th.0.kept }, let q = th.1.1.0 in omega (arith, q, le))

    test-out : p.tasks ≤ drew → Turned z p roles top k (Drew drew) (turn s k)
    test-out le = elim behind [
      | inl g ↦
          let d = at-door le in
          still (Drew drew) Adding (at_pc h p.door) Stepped er refl (past-drew-out p.tasks drew le) (d.0, (d.1, g))
          (λ t e. absurd e) (λ t l e. absurd (omega (arith, l, e, le))) (out-effect le) (refl, inr (le, inl (g, refl)))
      | inr y ↦
          let d = at-door le in
          still (Drew drew) Leaving (at_pc h p.door) Stepped er refl (past-drew-out p.tasks drew le) (d.0, (d.1, y))
          (λ t e. absurd e) (λ t l e. absurd (omega (arith, l, e, le))) (out-effect le) (refl, inr (le, inr (y, refl)))
    ]

    pub test-turn : Turned z p roles top k (Drew drew) (turn s k)
    test-turn = elim (cases_lt drew p.tasks) [ inl l ↦ test-in l | inr l ↦ test-out l ]

  -- the gate's add
  module _ (er : slice_get roles k ≡ Some Adding) where
    ah : Holds z p top (total has_added roles) s.memory k h Adding
    ah = v.holds k Adding h er eh

    abbrev shut : ℕ
    shut = total has_added roles

    abbrev ga : HasGate p
    ga = ah.1.1

    add-next : next_of p.text p.size h ≡ Does (AmoaddW 0 14 15 false false)
    add-next = next-does p k h p.door (AmoaddW 0 14 15 false false) ah.0 ga.add
        (ap (λ a. or_else (first_fault (length p.text) p.size Updates (one_access Word a)) None) ah.0.kept.gate
        ∙ amo-ok (length p.text) p.size p.gate c.gates.aligned c.gates.above c.gates.below)

    -- what it writes is the gate word
    pub add-writes : written_next s k ≡ touched (one_access Word p.gate)
    add-writes =
        ap (written_by_one s) eh
        ∙ ap (λ t. writes (next_of t (length s.memory) h) h) v.text
        ∙ ap (λ n. writes (next_of p.text n h) h) v.size
        ∙ ap (λ n. writes n h) add-next
        ∙ ap (λ a. touched (one_access Word a)) ah.0.kept.gate

    abbrev ae : Effect
    ae = amo-effect h 0 shut p.gate 1

    add-effect : effect p.text s.memory h ≡ ae
    add-effect =
        effect-does p s.memory h (Does (AmoaddW 0 14 15 false false)) v.size add-next
        ∙ ap (λ a. amo-effect h 0 (word_at p.text s.memory a) a (slice_index h.registers 15)) ah.0.kept.gate
        ∙ ap (λ a. amo-effect h 0 a p.gate (slice_index h.registers 15)) v.gates ∙ ap (amo-effect h 0 shut p.gate) ah.0.kept.one

    add-move : Move z p roles top s.memory k Adding Looking top ae.hart ae.places ae.bytes
    add-move =
        let u = total-set has_added roles k Adding Looking er in
        let now : shut + 1 ≡ total has_added (set roles k Looking) = omega (arith, u) in
        let past = total-same (is_past p.tasks) roles k Adding Looking er refl in record {
          more = omega arith;
          adds = omega arith;
          touch = (
            (c.gates.first, (let q = c.two_words in omega (arith, q), omega arith)),
            (
              (c.gates.second, (let q = c.two_words in omega (arith, q), omega arith)),
              (
                (c.gates.third, (let q = c.two_words in omega (arith, q), omega arith)),
                ((c.gates.fourth, (let q = c.two_words in omega (arith, q), omega arith)), tt),
              ),
            ),
          );
          bytes = spread-bytes (one_access Word p.gate) (wrap (shut + 1) ∷ []);
          holds = (
            record {
              running = ah.0.running;
              pc = ap (λ a. wrap (a + 4)) ah.0.pc ∙ wrap-fits (p.door + 4) (let q = ga.gate_fits in omega (arith, q));
              kept = ah.0.kept;
            },
            ah.1,
          );
          tickets = word-other p.text s.memory p.gate (wrap (shut + 1)) p.ticket (inl (let q = c.two_words in omega (arith, q))) ∙ v.tickets;
          gates = ap (λ n. word_at p.text (put_number s.memory Word p.gate n) p.gate) (wrap-fits (shut + 1) shut-small)
              ∙ word-put p.text s.memory p.gate (shut + 1) c.gates.above (in-size p.gate c.gates) shut-small ∙ now;
          bound = let q = v.bound in omega (arith, q, past);
          new = λ t e. absurd e;
          drawn = λ t a b. absurd (omega (arith, a, b));
          old = λ t l e. absurd e;
        }

    pub add-turn : Turned z p roles top k Adding (turn s k)
    add-turn = record {
      role = Looking;
      top = top;
      becomes = (refl, refl);
      inv = subst (Inv z p _ top) (sym (turn-is p s k h ae v.text eh add-effect))
          (next z p c.two_words roles top s k Adding h v er eh Looking top ae.hart ae.places ae.bytes add-move);
    }

  -- the gate's load
  module _ (er : slice_get roles k ≡ Some Looking) where
    lh : Holds z p top (total has_added roles) s.memory k h Looking
    lh = v.holds k Looking h er eh

    look-at : plus (slice_index h.registers 14) (pos 0) ≡ p.gate
    look-at = ap (λ n. plus n (pos 0)) lh.0.kept.gate ∙ gate-plus p c

    abbrev looked : ℕ → Effect
    looked n = record { hart = given h 17 n; places = []; bytes = []; outcome = Stepped }

    look-effect : effect p.text s.memory h ≡ looked (total has_added roles)
    look-effect =
        effect-does p s.memory h (Does (Load Lw 17 14 (pos 0))) v.size (next-does p k h (p.door + 4) (Load Lw 17 14 (pos 0)) lh.0 lh.1.1.look
        (ap (λ a. or_else (first_fault (length p.text) p.size Reads (one_access Word a)) None) look-at
        ∙ load-ok (length p.text) p.size p.gate c.gates.aligned c.gates.above c.gates.below))
        ∙ ap (λ a. looked (word_at p.text s.memory a)) look-at ∙ ap looked v.gates

    pub look-turn : Turned z p roles top k Looking (turn s k)
    look-turn = still Looking (Looked (total has_added roles)) (given h 17 (total has_added roles)) Stepped er refl refl (
      record {
        running = lh.0.running;
        pc = ap (λ a. wrap (a + 4)) lh.0.pc ∙ wrap-to (p.door + 4 + 4) (p.door + 8) (omega arith) (let q = lh.1.1.gate_fits in omega (arith, q));
        kept = kept-set p k h.registers h.vectors 17 (total has_added roles) (omega arith) (omega arith) (omega arith) (omega arith) (omega arith) (omega arith)
            lh.0.kept;
      },
      (get_or-set_same h.registers 17 (total has_added roles) 0 (let q = lh.0.kept.size in omega (arith, q)), (omega arith, lh.1)),
    )
        (λ t e. e) (λ t l e. e) look-effect (refl, refl)

  -- the gate's branch
  module _ (g : ℕ) (er : slice_get roles k ≡ Some (Looked g)) (so : total has_added roles < p.harts) where
    bh : Holds z p top (total has_added roles) s.memory k h (Looked g)
    bh = v.holds k (Looked g) h er eh

    abbrev gb : HasGate p
    gb = bh.1.1.1.1

    abbrev again : Insn
    again = Branch Bne 17 11 gb.back

    back-is : jump_of again h ≡ cond (not (g == p.harts)) (Some (p.door + 4)) None
    back-is =
        ap (λ n. cond (not (n == slice_index h.registers 11)) (Some (offset_from h.pc gb.back)) None) bh.1.0
        ∙ ap (λ n. cond (not (g == n)) (Some (offset_from h.pc gb.back)) None) bh.0.kept.harts
        ∙ ap (λ n. cond (not (g == p.harts)) (Some (offset_from n gb.back)) None) bh.0.pc
        ∙ ap (λ n. cond (not (g == p.harts)) (Some n) None) gb.back_is

    again-effect : (o : Option ℕ) → jump_of again h ≡ o → or_else (jump_fault o) None ≡ None
        → effect p.text s.memory h ≡ record { hart = jumped h o; places = []; bytes = []; outcome = Stepped }
    again-effect o e f =
        effect-does p s.memory h (Does again) v.size (next-does p k h (p.door + 8) again bh.0 gb.again (ap (λ q. or_else (jump_fault q) None) e ∙ f))
        ∙ ap (λ q. record { hart = jumped h q; places = []; bytes = []; outcome = Stepped }) e

    once-more : g ≢ p.harts → Turned z p roles top k (Looked g) (turn s k)
    once-more e =
        let no : not (g == p.harts) ≡ true = grind (arith, nat_tests) in
        let al : (p.door + 4) % 4 ≡ 0 = let q = c.aligned in omega (arith, q) in
        still (Looked g) Looking (at_pc h (p.door + 4)) Stepped er refl refl
        (record { running = bh.0.running; pc = refl; kept = bh.0.kept }, (bh.1.1.1.0, gb))
        (λ t x. x) (λ t l x. x) (again-effect (Some (p.door + 4)) (back-is ∙ ap (λ b. cond b (Some (p.door + 4)) None) no)
        (ap (λ n. or_else (if n == 0 then None else Some MisalignedTarget) None) al)) (refl, refl)

    pub again-turn : Turned z p roles top k (Looked g) (turn s k)
    again-turn = once-more (λ e. let q = bh.1.1.0 in omega (arith, q, e, so))

  -- the end
  module _ (er : slice_get roles k ≡ Some Leaving) where
    eh1 : Holds z p top (total has_added roles) s.memory k h Leaving
    eh1 = v.holds k Leaving h er eh

    pub leave-turn : Turned z p roles top k Leaving (turn s k)
    leave-turn = still Leaving Over (with_status h Done) Finished er refl refl (refl, eh1.1) (λ t e. e) (λ t l e. e)
        (effect-does p s.memory h (Does Ecall) v.size (next-does p k h p.door Ecall eh1.0 eh1.1.1 refl)) (refl, refl)

  module _ (er : slice_get roles k ≡ Some Over) where
    oh : Holds z p top (total has_added roles) s.memory k h Over
    oh = v.holds k Over h er eh

    pub over-turn : Turned z p roles top k Over (turn s k)
    over-turn = still Over Over h Idle er refl refl oh (λ t e. e) (λ t l e. e)
        (effect-does p s.memory h Rests v.size (ap (λ st. if_running st (due (length p.text) p.size h (fetched p.text h.pc))) oh.0)) (refl, refl)

  -- at the gate before
  module _ (er : slice_get roles k ≡ Some Before) where
    fh : Holds z p top (total has_added roles) s.memory k h Before
    fh = v.holds k Before h er eh

    abbrev y : Link z p
    y = fh.0

    before-at : plus (slice_index h.registers 14) (pos 0) ≡ z.gate
    before-at = ap (λ n. plus n (pos 0)) fh.1.kept.gate ∙ gate-plus z y.code

    abbrev asked : ℕ → Effect
    asked n = record { hart = given h 17 n; places = []; bytes = []; outcome = Stepped }

    before-effect : effect p.text s.memory h ≡ asked p.harts
    before-effect =
        effect-does p s.memory h (Does (Load Lw 17 14 (pos 0))) v.size (next-by p h (z.door + 4) (Load Lw 17 14 (pos 0)) fh.1.running fh.1.pc
        (subst (λ t. Says t (z.door + 4) (Load Lw 17 14 (pos 0))) y.text y.waits.look)
        (ap (λ a. or_else (first_fault (length p.text) p.size Reads (one_access Word a)) None) before-at
        ∙ load-ok (length p.text) p.size z.gate y.gate.aligned y.gate.above y.gate.below))
        ∙ ap (λ a. asked (word_at p.text s.memory a)) before-at ∙ ap asked (v.came y)

    pub before-turn : Turned z p roles top k Before (turn s k)
    before-turn = still Before (Asked p.harts) (given h 17 p.harts) Stepped er refl refl (
      y,
      (
        record {
          running = fh.1.running;
          pc = ap (λ a. wrap (a + 4)) fh.1.pc ∙ wrap-to (z.door + 4 + 4) (z.door + 8) (omega arith) (let q = y.waits.gate_fits in omega (arith, q));
          kept = kept-set z k h.registers h.vectors 17 p.harts (omega arith) (omega arith) (omega arith) (omega arith) (omega arith) (omega arith) fh.1.kept;
        },
        get_or-set_same h.registers 17 p.harts 0 (let q = fh.1.kept.size in omega (arith, q)),
      ),
    )
        (λ t e. e) (λ t l e. e) before-effect (refl, refl)

  module _ (g : ℕ) (er : slice_get roles k ≡ Some (Asked g)) where
    gh : Holds z p top (total has_added roles) s.memory k h (Asked g)
    gh = v.holds k (Asked g) h er eh

    abbrev w : Link z p
    w = gh.0

    abbrev ask : Insn
    ask = Branch Bne 17 11 w.waits.back

    ask-is : jump_of ask h ≡ cond (not (g == p.harts)) (Some (z.door + 4)) None
    ask-is =
        ap (λ n. cond (not (n == slice_index h.registers 11)) (Some (offset_from h.pc w.waits.back)) None) gh.1.1
        ∙ ap (λ n. cond (not (g == n)) (Some (offset_from h.pc w.waits.back)) None) (gh.1.0.kept.harts ∙ w.harts)
        ∙ ap (λ n. cond (not (g == p.harts)) (Some (offset_from n w.waits.back)) None) gh.1.0.pc
        ∙ ap (λ n. cond (not (g == p.harts)) (Some n) None) w.waits.back_is

    ask-effect : (o : Option ℕ) → jump_of ask h ≡ o → or_else (jump_fault o) None ≡ None
        → effect p.text s.memory h ≡ record { hart = jumped h o; places = []; bytes = []; outcome = Stepped }
    ask-effect o e f =
        effect-does p s.memory h (Does ask) v.size (next-by p h (z.door + 8) ask gh.1.0.running gh.1.0.pc (subst (λ t. Says t (z.door + 8) ask) w.text
        w.waits.again) (ap (λ q. or_else (jump_fault q) None) e ∙ f))
        ∙ ap (λ q. record { hart = jumped h q; places = []; bytes = []; outcome = Stepped }) e

    set-up : g ≡ p.harts → Turned z p roles top k (Asked g) (turn s k)
    set-up e =
        let yes : not (g == p.harts) ≡ false = grind (arith, nat_tests) in
        let at : Stands z k (advanced h) (z.door + 12) = record {
          running = gh.1.0.running;
          pc = ap (λ a. wrap (a + 4)) gh.1.0.pc ∙ wrap-to (z.door + 8 + 4) (z.door + 12) (omega arith) (let q = w.waits.gate_fits in omega (arith, q));
          kept = gh.1.0.kept;
        } in
        let solo = w.setup k (advanced h) s.memory at v.size v.bytes in
        still (Asked g) (Inside Setup (p.turns Setup) s.memory) (advanced h) Stepped er refl refl
        (record { drawn = tt; size = v.size; agree = λ a e. refl; soon = solo })
        (λ t x. x) (λ t l x. x) (ask-effect None (ask-is ∙ ap (λ b. cond b (Some (z.door + 4)) None) yes) refl) (refl, inl (e, (s.memory, refl)))

    ask-more : g ≢ p.harts → Turned z p roles top k (Asked g) (turn s k)
    ask-more e =
        let no : not (g == p.harts) ≡ true = grind (arith, nat_tests) in
        let al : (z.door + 4) % 4 ≡ 0 = let q = w.code.aligned in omega (arith, q) in
        still (Asked g) Before (at_pc h (z.door + 4)) Stepped er refl refl
        (w, record { running = gh.1.0.running; pc = refl; kept = gh.1.0.kept })
        (λ t x. x) (λ t l x. x) (ask-effect (Some (z.door + 4)) (ask-is ∙ ap (λ b. cond b (Some (z.door + 4)) None) no)
        (ap (λ n. or_else (if n == 0 then None else Some MisalignedTarget) None) al)) (refl, inr (e, refl))

    pub ask-turn : Turned z p roles top k (Asked g) (turn s k)
    ask-turn = elim (cases_eq g p.harts) [ inl e ↦ set-up e | inr e ↦ ask-more e ]

-- two instructions can't stand at one door
pub gate-or-end : (p : Phase) → HasGate p → HasEnd p → ⊥
gate-or-end p g y =
    let w : Some g.add.word ≡ Some y.word = sym g.add.fetched ∙ y.fetched in
    let e : g.add.word ≡ y.word = cc w in
    let d : Some (AmoaddW 0 14 15 false false) ≡ Some Ecall = sym g.add.decoded ∙ ap decoded e ∙ y.decoded in cc d

open-here : {p : Phase} {n : ℕ} → HasGate p → (n < p.harts) ⊎ HasEnd p → n < p.harts
open-here {p} g (inl l) = l
open-here {p} g (inr y) = absurd (gate-or-end p g y)

pub hart-turn : (z p : Phase) (c : Code p) (behind : HasGate p ⊎ HasEnd p) (td : TaskDone p) (roles : List Role) (top : ℕ) (s : State) (k : ℕ) (h : HartState)
    (v : Inv z p roles top s) (eh : slice_get s.harts k ≡ Some h) → (total has_added roles < p.harts) ⊎ HasEnd p → (r : Role) → slice_get roles k ≡ Some r
    → Turned z p roles top k r (turn s k)
hart-turn z p c behind td roles top s k h v eh so Before e = before-turn z p c roles top s k h v eh e
hart-turn z p c behind td roles top s k h v eh so (Asked g) e = ask-turn z p c roles top s k h v eh g e
hart-turn z p c behind td roles top s k h v eh so Drawing e = draw-turn z p c roles top s k h v eh e
hart-turn z p c behind td roles top s k h v eh so (Drew d) e = test-turn z p c roles top s k h v eh d e td behind
hart-turn z p c behind td roles top s k h v eh so (Inside t j m) e = inside-turn z p c roles top s k h v eh t j m e
hart-turn z p c behind td roles top s k h v eh so Adding e = add-turn z p c roles top s k h v eh e
hart-turn z p c behind td roles top s k h v eh so Looking e = look-turn z p c roles top s k h v eh e
hart-turn z p c behind td roles top s k h v eh so (Looked g) e = again-turn z p c roles top s k h v eh g e (open-here (v.holds k (Looked g) h e eh).1.1.1.1 so)
hart-turn z p c behind td roles top s k h v eh so Leaving e = leave-turn z p c roles top s k h v eh e
hart-turn z p c behind td roles top s k h v eh so Over e = over-turn z p c roles top s k h v eh e
