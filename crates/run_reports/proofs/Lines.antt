-- The lines of a profile, one more at the end, and the same of equal counts.
use Rattle.std.proofs.Common.{◌≡◌, ◌∙◌, ◌+◌, ◌*◌, ◌<◌, ◌≤◌, ℕ, zero, suc, refl, sym, ap, arith, List, [], ◌∷◌, ◌++◌, length, add-one, append_assoc}
use Rattle.std.specs.Prelude.{Option, Some, None, codes, slice_get, slice_index}
use Rattle.std.specs.List.{All}
use Rattle.std.specs.Fmt.{decimal}
use Rattle.memory.specs.Access.{text_start}
use Rattle.multi_hart.specs.Run.{State}
use Rattle.disassembler.specs.Listing.{hexadecimal_text, listed}
use Rattle.run_reports.specs.Profile.{IsProfile}
use Rattle.run_reports.specs.ProfileText.{Counts, columns, counts_of, hart_line, hart_lines, lines_of, place_text, profile_text, total, word_line, word_lines}
use Rattle.run_reports.specs.declared.profiles.HartProfile.{HartProfile}
use Rattle.run_reports.specs.inner.Counting.{AreFew, count_in, counts_in, idle_in, made_in}

-- a text that grew twice
pub joined : (start middle end front back all : List ℕ) → middle ≡ start ++ front → end ≡ middle ++ back → all ≡ front ++ back → end ≡ start ++ all
joined start middle end front back all a b c = b ∙ ap (λ text. text ++ back) a ∙ append_assoc start front back ∙ ap (λ text. start ++ text) (sym c)

pub hart_lines-more : (counts : Counts) (n : ℕ) → hart_lines counts (n + 1) ≡ hart_lines counts n ++ hart_line n (counts.made n) (counts.idle n)
unfolding hart_lines
hart_lines-more counts n = rw add-one refl

pub total-none : (counts : Counts) (place : ℕ) → total counts place 0 ≡ 0
unfolding total
total-none counts place = refl

pub total-more : (counts : Counts) (place n : ℕ) → total counts place (n + 1) ≡ total counts place n + counts.there n place
unfolding total
total-more counts place n = rw add-one refl

pub columns-more : (counts : Counts) (place n : ℕ) → columns counts place (n + 1) ≡ columns counts place n ++ 32 ∷ decimal (counts.there n place)
unfolding columns
columns-more counts place n = rw add-one refl

pub word_lines-more : (counts : Counts) (harts : ℕ) (words : List ℕ) (n : ℕ) → word_lines counts harts words (n + 1) ≡ word_lines counts harts words n
    ++ word_line counts harts n (slice_index words n)
unfolding word_lines
word_lines-more counts harts words n = rw add-one refl

-- what is said of one profile of several
pub own_line : (profiles : List HartProfile) (hart : ℕ) (one : HartProfile) → slice_get profiles hart ≡ Some one
    → hart_line hart one.made one.idle ≡ hart_line hart ((counts_in profiles).made hart) ((counts_in profiles).idle hart)
own_line profiles hart one got = ap (λ (o : Option HartProfile). hart_line hart (made_in o) (idle_in o)) (sym got)

pub few_words : (words fewer : ℕ) (profiles : List HartProfile) → fewer ≤ words → All (AreFew words) profiles → All (AreFew fewer) profiles
few_words words fewer profiles within all = λ k d below.
    (let one = all k d below in
    record {
      enough = (let enough = one.enough in omega (arith, enough, within));
      few = λ place inside. one.few place (omega (arith, inside, within));
    })

missing : (profiles : List HartProfile) (hart : ℕ) → slice_get profiles hart ≡ None → length profiles ≤ hart
missing [] hart got = omega arith
missing (one ∷ profiles) zero got = absurd cc
missing (one ∷ profiles) (suc hart) got = let rest = missing profiles hart got in omega (arith, rest)

-- ---- equal counts

pub record Alike (a b : Counts) (harts words : ℕ) : Type 0 where
  pub made : (hart : ℕ) → hart < harts → a.made hart ≡ b.made hart
  pub idle : (hart : ℕ) → hart < harts → a.idle hart ≡ b.idle hart
  pub there : (hart place : ℕ) → hart < harts → place < words → a.there hart place ≡ b.there hart place

alike-harts : (a b : Counts) (harts words n : ℕ) → Alike a b harts words → n ≤ harts → hart_lines a n ≡ hart_lines b n
unfolding hart_lines
alike-harts a b harts words zero alike few = refl
alike-harts a b harts words (suc n) alike few =
    ap (λ text. text ++ hart_line n (a.made n) (a.idle n)) (alike-harts a b harts words n alike (omega (arith, few)))
    ∙ ap (λ made. hart_lines b n ++ hart_line n made (a.idle n)) (alike.made n (omega (arith, few)))
    ∙ ap (λ idle. hart_lines b n ++ hart_line n (b.made n) idle) (alike.idle n (omega (arith, few)))

alike-total : (a b : Counts) (harts words place n : ℕ) → Alike a b harts words → place < words → n ≤ harts → total a place n ≡ total b place n
unfolding total
alike-total a b harts words place zero alike within few = refl
alike-total a b harts words place (suc n) alike within few =
    ap (λ sum. sum + a.there n place) (alike-total a b harts words place n alike within (omega (arith, few)))
    ∙ ap (λ count. total b place n + count) (alike.there n place (omega (arith, few)) within)

alike-columns : (a b : Counts) (harts words place n : ℕ) → Alike a b harts words → place < words → n ≤ harts → columns a place n ≡ columns b place n
unfolding columns
alike-columns a b harts words place zero alike within few = refl
alike-columns a b harts words place (suc n) alike within few =
    ap (λ text. text ++ 32 ∷ decimal (a.there n place)) (alike-columns a b harts words place n alike within (omega (arith, few)))
    ∙ ap (λ count. columns b place n ++ 32 ∷ decimal count) (alike.there n place (omega (arith, few)) within)

-- a word's line by its sum and the columns
abbrev word_of : ℕ → ℕ → ℕ → List ℕ → List ℕ
word_of place word sum text = (decimal sum ++ text ++ codes " " ++ hexadecimal_text 8 (text_start + 4 * place) ++ codes " ") ++ listed word

alike-word : (a b : Counts) (harts words place word : ℕ) → Alike a b harts words → place < words → word_line a harts place word ≡ word_line b harts place word
unfolding word_line place_text
alike-word a b harts words place word alike within =
    ap (λ sum. word_of place word sum (columns a place harts)) (alike-total a b harts words place harts alike within (omega arith))
    ∙ ap (λ text. word_of place word (total b place harts) text) (alike-columns a b harts words place harts alike within (omega arith))

alike-words : (a b : Counts) (harts : ℕ) (words : List ℕ) (n : ℕ) → Alike a b harts (length words) → n ≤ length words
    → word_lines a harts words n ≡ word_lines b harts words n
unfolding word_lines
alike-words a b harts words zero alike few = refl
alike-words a b harts words (suc n) alike few =
    ap (λ text. text ++ word_line a harts n (slice_index words n)) (alike-words a b harts words n alike (omega (arith, few)))
    ∙ ap (λ line. word_lines b harts words n ++ line) (alike-word a b harts (length words) n (slice_index words n) alike (omega (arith, few)))

pub alike-lines : (a b : Counts) (harts : ℕ) (words : List ℕ) → Alike a b harts (length words) → lines_of a harts words ≡ lines_of b harts words
alike-lines a b harts words alike =
    ap (λ text. text ++ word_lines a harts words (length words)) (alike-harts a b harts (length words) harts alike (omega arith))
    ∙ ap (λ text. hart_lines b harts ++ text) (alike-words a b harts words (length words) alike (omega arith))

-- profiles of turns say what is counted of these
pub profiles_say : (begin : State) (turns : List ℕ) (profiles : List HartProfile) → IsProfile begin turns profiles
    → Alike (counts_in profiles) (counts_of begin turns) (length profiles) (length begin.text)
profiles_say begin turns profiles is = record {
  made = λ hart below. some_made hart (slice_get profiles hart) refl below;
  idle = λ hart below. some_idle hart (slice_get profiles hart) refl below;
  there = λ hart place below within. some_there hart place (slice_get profiles hart) refl below within;
}
  where
    some_made : (hart : ℕ) (o : Option HartProfile) → slice_get profiles hart ≡ o → hart < length profiles → made_in o ≡ (counts_of begin turns).made hart
    some_made hart None got below = let past = missing profiles hart got in absurd (omega (arith, past, below))
    some_made hart (Some one) got below = (is.each hart one got).made

    some_idle : (hart : ℕ) (o : Option HartProfile) → slice_get profiles hart ≡ o → hart < length profiles → idle_in o ≡ (counts_of begin turns).idle hart
    some_idle hart None got below = let past = missing profiles hart got in absurd (omega (arith, past, below))
    some_idle hart (Some one) got below = (is.each hart one got).idle

    some_there : (hart place : ℕ) (o : Option HartProfile) → slice_get profiles hart ≡ o → hart < length profiles → place < length begin.text
        → count_in place o ≡ (counts_of begin turns).there hart place
    some_there hart place None got below within = let past = missing profiles hart got in absurd (omega (arith, past, below))
    some_there hart place (Some one) got below within = (is.each hart one got).each place within

pub text_said : (begin : State) (turns words : List ℕ) (profiles : List HartProfile) → words ≡ begin.text → IsProfile begin turns profiles
    → lines_of (counts_in profiles) (length profiles) words ≡ profile_text begin turns
text_said begin turns words profiles same is =
    ap (lines_of (counts_in profiles) (length profiles)) same
    ∙ alike-lines (counts_in profiles) (counts_of begin turns) (length profiles) begin.text (profiles_say begin turns profiles is)
    ∙ ap (λ harts. lines_of (counts_of begin turns) harts begin.text) is.as_many
