-- Where the parts of a program of phases stand.
use Rattle.std.proofs.Common.{◌≡◌, ℕ, zero, suc, ◌+◌, ◌-◌, ◌*◌, ◌%◌, ◌^◌, ◌<◌, ◌≤◌, List, [], ◌∷◌, ◌++◌, length, Bool, true, false, refl, ap, ◌∙◌, sym, subst}
use Rattle.std.proofs.Common.{arith, length-append}
use Rattle.std.specs.Prelude.{slice_index_or, pos}
use Rattle.std.proofs.Math.IntN.{pos-*ℤ-pos, pos-*ℤ-negsuc, neg_ℤ}
use Rattle.rv_insn.specs.declared.instructions.Insn.{Insn}
use Rattle.rv_insn.specs.declared.instructions.Insn.TheVariants.{Jal}
use Rattle.hart_core.specs.Scalar.{plus, offset_from}
use Rattle.multi_hart_laws.specs.Alone.{Says}
use Rattle.multi_hart_laws.specs.Paths.{Spot, Stand, end}
use Rattle.multi_hart_laws.proofs.Paths.{stand-front, stand-back}
use Rattle.work_sharing.specs.Turns.{ticket_word}
use Rattle.task_code_scalar.specs.Code.{forth, back}
use Rattle.task_code.specs.Tasks.{restored}
use Rattle.vector_codegen.specs.PhaseCode.{Part, door_code, door_words, draw_code, tasks_code, phase_code, program, begin, door_at, draw_at}
use Rattle.vector_codegen.specs.Sharing.{no_part}

-- ---- where jumps go

pub forth-to : (at n to : ℕ) → at + 4 * n ≡ to → to < 2 ^ 32 → offset_from at (forth n) ≡ to
forth-to at n to e l = ap (plus at) (pos-*ℤ-pos 2 (2 * n)) ∙ (let g : (at + (2 * (2 * n)) % 2 ^ 32) % 2 ^ 32 ≡ to = omega (arith, e, l) in g)

pub back-to : (at n to : ℕ) → to + 4 * n ≡ at → 1 ≤ n → at < 2 ^ 32 → offset_from at (back n) ≡ to
back-to at n to e low l =
    let twice : 2 * suc (2 * n - 1) ≡ suc (4 * n - 1) = omega (arith, low) in
    ap (plus at) (pos-*ℤ-negsuc 2 (2 * n - 1) ∙ ap (λ z. neg_ℤ (pos z)) twice)
    ∙ (let g : (at + (2 ^ 32 - suc ((4 * n - 1) % 2 ^ 32))) % 2 ^ 32 ≡ to = omega (arith, e, l, low) in g)

-- ---- lengths

pub end-is : (at : ℕ) (is : List Insn) → end at is ≡ at + 4 * length is
end-is at [] = omega arith
end-is at (i ∷ is) = let e : end (at + 4) is ≡ at + 4 + 4 * length is = end-is (at + 4) is in e ∙ omega arith

tasks-length : (is : List Insn) → length (tasks_code is) ≡ length is + 1
tasks-length is = length-append is _

pub phase-length : (is_last : Bool) (ticket : ℕ) (part : Part) → length (phase_code is_last ticket part) ≡ length part.insns + 12 + door_words is_last
phase-length true ticket part = let e = tasks-length part.insns in omega (arith, e)
phase-length false ticket part = let e = tasks-length part.insns in omega (arith, e)

-- ---- phases

-- the phase after k others is the last of n, or isn't
abbrev pub Which : Bool → ℕ → ℕ → Type 0
Which true k n = suc k ≡ n
Which false k n = suc k < n

which-down : (is_last : Bool) (k n : ℕ) → Which is_last (suc k) (suc n) → Which is_last k n
which-down true k n e = omega (arith, e)
which-down false k n e = omega (arith, e)

pub stand-phase : (text : List ℕ) (parts : List Part) (at number k t : ℕ) (is_last : Bool) → Stand text at (program number parts) → k < length parts
    → Which is_last k (length parts) → t ≡ ticket_word (number + k)
    → Stand text (begin at parts k) (phase_code is_last t (slice_index_or parts k no_part))
stand-phase text [] at number k t is_last s l e u = absurd (omega (arith, l))
stand-phase text (part ∷ []) at number zero t true s l e u =
    let n : number + 0 ≡ number = omega arith in
    subst (λ x. Stand text at (phase_code true x part)) (sym (u ∙ ap ticket_word n)) s
stand-phase text (part ∷ []) at number zero t false s l e u = absurd (omega (arith, e))
stand-phase text (part ∷ []) at number (suc k) t is_last s l e u = absurd (omega (arith, l))
stand-phase text (part ∷ other ∷ others) at number zero t true s l e u = absurd (omega (arith, e))
stand-phase text (part ∷ other ∷ others) at number zero t false s l e u =
    let n : number + 0 ≡ number = omega arith in
    subst (λ x. Stand text at (phase_code false x part)) (sym (u ∙ ap ticket_word n)) (stand-front text at (phase_code false (ticket_word number) part)
    (program (suc number) (other ∷ others)) s)
stand-phase text (part ∷ other ∷ others) at number (suc k) t is_last s l e u =
    let first = phase_code false (ticket_word number) part in
    let rest = program (suc number) (other ∷ others) in
    let q : end at first ≡ at + 4 * (length part.insns + 16) = end-is at first ∙ ap (λ n. at + 4 * n) (phase-length false (ticket_word number) part
    ∙ omega arith) in
    let n : number + suc k ≡ suc number + k = omega arith in
    stand-phase text (other ∷ others) (at + 4 * (length part.insns + 16)) (suc number) k t is_last
    (subst (λ a. Stand text a rest) q (stand-back text at first rest s)) (omega (arith, l)) (which-down is_last k (length (other ∷ others)) e) (u
    ∙ ap ticket_word n)

-- ---- the parts of one

module _ (text : List ℕ) (at : ℕ) (is_last : Bool) (ticket : ℕ) (part : Part) (s : Stand text at (phase_code is_last ticket part)) where
  moved : (a b : ℕ) (is : List Insn) → a ≡ b → Stand text a is → Stand text b is
  moved a b is e x = subst (λ c. Stand text c is) e x

  abbrev setup : List Insn
  setup = restored ticket part.tasks

  abbrev door : List Insn
  door = door_code is_last (length part.insns + 3)

  abbrev draw : List Insn
  draw = draw_code is_last

  abbrev way_in : Insn
  way_in = Jal 0 (forth (door_words is_last + 1))

  pub at-setup : Stand text at setup
  at-setup = stand-front text at setup (way_in ∷ (door ++ (draw ++ tasks_code part.insns))) s

  pub behind-setup : end at setup ≡ at + 32
  behind-setup = omega arith

  from-way : Stand text (at + 32) (way_in ∷ (door ++ (draw ++ tasks_code part.insns)))
  from-way = moved (end at setup) (at + 32) (way_in ∷ (door ++ (draw ++ tasks_code part.insns))) behind-setup (stand-back text at setup (way_in
      ∷ (door ++ (draw ++ tasks_code part.insns))) s)

  pub at-way : Says text (at + 32) way_in
  at-way = from-way.0

  from-door : Stand text (door_at at) (door ++ (draw ++ tasks_code part.insns))
  from-door = moved (at + 32 + 4) (door_at at) (door ++ (draw ++ tasks_code part.insns)) (omega arith) from-way.1

  pub at-door : Stand text (door_at at) door
  at-door = stand-front text (door_at at) door (draw ++ tasks_code part.insns) from-door

  door-length : (b : Bool) (n : ℕ) → length (door_code b n) ≡ door_words b
  door-length true n = refl
  door-length false n = refl

  from-draw : Stand text (draw_at is_last at) (draw ++ tasks_code part.insns)
  from-draw =
      moved (end (door_at at) door) (draw_at is_last at) (draw ++ tasks_code part.insns) (end-is (door_at at) door
      ∙ ap (λ n. door_at at + 4 * n) (door-length is_last (length part.insns + 3)))
      (stand-back text (door_at at) door (draw ++ tasks_code part.insns) from-door)

  pub at-draw : Stand text (draw_at is_last at) draw
  at-draw = stand-front text (draw_at is_last at) draw (tasks_code part.insns) from-draw

  from-tasks : Stand text (draw_at is_last at + 8) (tasks_code part.insns)
  from-tasks = moved (draw_at is_last at + 4 + 4) (draw_at is_last at + 8) (tasks_code part.insns) (omega arith) from-draw.1.1

  pub at-tasks : Stand text (draw_at is_last at + 8) part.insns
  at-tasks = stand-front text (draw_at is_last at + 8) part.insns (Jal 0 (back (length part.insns + 2)) ∷ []) from-tasks

  from-back : Stand text (end (draw_at is_last at + 8) part.insns) (Jal 0 (back (length part.insns + 2)) ∷ [])
  from-back = stand-back text (draw_at is_last at + 8) part.insns (Jal 0 (back (length part.insns + 2)) ∷ []) from-tasks

  pub at-back : Says text (end (draw_at is_last at + 8) part.insns) (Jal 0 (back (length part.insns + 2)))
  at-back = from-back.0

  pub behind : Spot (draw_at is_last at + 12 + 4 * length part.insns)
  behind =
      let e : end (draw_at is_last at + 8) part.insns + 4 ≡ draw_at is_last at + 12 + 4 * length part.insns = let q = end-is (draw_at is_last at + 8) part.insns
      in omega (arith, q) in
      subst Spot e from-back.1
