-- Rules for the run of one hart alone: words that stand in the text, and one more instruction in front.
use Rattle.std.proofs.Common.{◌≡◌, ℕ, suc, ◌+◌, ◌*◌, ◌%◌, List, length, None, false, ap, ◌∙◌, sym, subst, arith}
use Rattle.std.specs.Prelude.{◌-◌, ◌/◌, ◌||◌, slice_get, nat_lt, cond, Some}
use Rattle.std.proofs.lemmas.Bool.Decides.{nat_tests}
use Rattle.rv_insn.specs.declared.instructions.Insn.{Insn}
use Rattle.multi_hart.specs.Decoding.{decoded}
use Rattle.memory.specs.Access.{text_start, fetched, touched, read_by, written_by}
use Rattle.hart_core.specs.declared.harts.Status.TheVariants.{Running}
use Rattle.hart_core.specs.HartState.{HartState}
use Rattle.hart_core.specs.Scalar.{kind_of, accesses}
use Rattle.hart_core.specs.Turn.{Next, Does, next_of, effect, made, done, numbers_read, applied, step, if_running, due, meant, judged, fault}
use Rattle.multi_hart.specs.Run.{reads, writes, Within}
use Rattle.multi_hart_laws.specs.Uses.{MayRead, MayWrite}
use Rattle.multi_hart_laws.specs.Alone.{World, Says, Keeps, Soon}

-- ---- what words of text say

-- the address of a word of text
abbrev pub text_word : ℕ → ℕ
text_word i = text_start + 4 * i

fetched-at : (text : List ℕ) (i : ℕ) → fetched text (text_word i) ≡ slice_get text i
fetched-at text i =
    let no : (nat_lt (text_word i) text_start || nat_lt 0 (text_word i % 4)) ≡ false = fetches i in
    let n : (text_word i - text_start) / 4 ≡ i = omega arith in
    ap (λ b. cond b None (slice_get text ((text_word i - text_start) / 4))) no ∙ ap (slice_get text) n
  where
    first : (i : ℕ) → nat_lt (text_word i) text_start ≡ false
    first i = grind (arith, nat_tests)

    second : (i : ℕ) → nat_lt 0 (text_word i % 4) ≡ false
    second i = let e : text_word i % 4 ≡ 0 = omega arith in ap (nat_lt 0) e

    fetches : (i : ℕ) → (nat_lt (text_word i) text_start || nat_lt 0 (text_word i % 4)) ≡ false
    fetches i = ap (λ b. b || nat_lt 0 (text_word i % 4)) (first i) ∙ second i

-- a word of a text of any length, and what it means
pub says-word : (text : List ℕ) (i w : ℕ) (insn : Insn) → slice_get text i ≡ Some w → decoded w ≡ Some insn → Says text (text_word i) insn
says-word text i w insn there means = record { word = w; fetched = fetched-at text i ∙ there; decoded = means }

-- ---- a turn

pub effect-does : (text : List ℕ) (size : ℕ) (memory : List ℕ) (hart : HartState) (next : Next) → length memory ≡ size → next_of text size hart ≡ next
    → effect text memory hart ≡ made text memory hart next
effect-does text size memory hart next l e = ap (λ n. made text memory hart (next_of text n hart)) l ∙ ap (made text memory hart) e

pub next-by : (text : List ℕ) (size : ℕ) (hart : HartState) (at : ℕ) (insn : Insn) → hart.status ≡ Running → hart.pc ≡ at → Says text at insn
    → fault (length text) size insn hart ≡ None → next_of text size hart ≡ Does insn
next-by text size hart at insn r c w f =
    ap (λ st. if_running st (due (length text) size hart (fetched text hart.pc))) r
    ∙ ap (λ a. due (length text) size hart (fetched text a)) c
    ∙ ap (due (length text) size hart) w.fetched ∙ ap (meant (length text) size hart) w.decoded ∙ ap (judged insn) f

-- what an instruction that makes no trap leaves
abbrev pub left : World → List ℕ → HartState → Insn → HartState × List ℕ
left world memory hart insn = (
  (applied memory (done hart insn (numbers_read world.text memory hart insn))).hart,
  (applied memory (done hart insn (numbers_read world.text memory hart insn))).memory,
)

-- one instruction more in front
pub in-front : (world : World) (wanted : HartState → List ℕ → Type 0) (n at : ℕ) (insn : Insn) (hart : HartState) (memory : List ℕ) → length memory ≡ world.size
    → hart.status ≡ Running → hart.pc ≡ at → Says world.text at insn → fault (length world.text) world.size insn hart ≡ None
    → Within (λ a. MayRead world.job world.hart (world.uses a)) (touched (read_by (kind_of insn) (accesses insn hart)))
    → Within (λ a. MayWrite world.job world.hart (world.uses a)) (touched (written_by (kind_of insn) (accesses insn hart)))
    → Keeps world (touched (written_by (kind_of insn) (accesses insn hart)))
    → Soon world wanted n (left world memory hart insn).0 (left world memory hart insn).1
    → Soon world wanted (suc n) hart memory
in-front world wanted n at insn hart memory l r c w f rd wr kp s =
    let e = next-by world.text world.size hart at insn r c w f in
    let q : step world.text memory hart ≡ applied memory (done hart insn (numbers_read world.text memory hart insn)) =
    ap (applied memory) (effect-does world.text world.size memory hart (Does insn) l e) in (
      record {
        insn = insn;
        does = e;
        may_read = subst (λ y. Within (λ a. MayRead world.job world.hart (world.uses a)) (reads y hart)) (sym e) rd;
        may_write = subst (λ y. Within (λ a. MayWrite world.job world.hart (world.uses a)) (writes y hart)) (sym e) wr;
        keeps = subst (λ y. Keeps world (writes y hart)) (sym e) kp;
      },
      subst (λ y. Soon world wanted n y.hart y.memory) (sym q) s,
    )
