-- Each step keeps the rule of a board.
use Rattle.std.proofs.Common.{◌≡◌, ◌≢◌, ℕ, ◌+◌, ◌%◌, ◌^◌, ◌<◌, ◌≤◌, ◌==◌, Bool, true, false, if◌then◌else◌, List, [], ◌∷◌, length, map, set, refl, sym, ap, ◌∙◌}
use Rattle.std.proofs.Common.{subst, ⊎_elim, arith, lt_of_not-le, eq-eqb}
use Rattle.std.specs.Prelude.{slice_index}
use Rattle.std.proofs.lemmas.List.{get_or-set_same, get_or-set_other, set-get_or, length-set}
use mathlib.Core.Logic.{dite}
use mathlib.Core.Option.{some, none}
use native.Mathlib.Decide.{ℕ_discrete}
use lib.ListN.{get_elem?}
use Rattle.atomic_table.specs.Table.{Allows, Me, step, keeps}
use Rattle.atomic_table.proofs.Lists.{at_set}
use Rattle.board.specs.declared.known.SeatKnowledge.{SeatKnowledge}
use Rattle.board.specs.Rule.{times, AreWords, AreSeen, Fits, Stands, stop_word, most_harts, most_number}
use Rattle.board.specs.Steps.{last_found, added, looked, asked, heard, Adds, Looks, Asks, Hears}
use Rattle.board.proofs.Counting.{total-set, total-one, total-two, times-here, counts-set, sights-set, last_found-here, last_found-apart}

-- how often a token counts a hart
abbrev counted : ℕ → SeatKnowledge → ℕ
counted hart token = times hart token.counts

-- the tokens after one has learned something
fits-learned : (words : List ℕ) (tokens : List SeatKnowledge) (id : ℕ) (new : SeatKnowledge) → ((j : ℕ) (token : SeatKnowledge) → j ≢ id → get_elem? tokens j ≡ some token
    → Fits words token) → Fits words new
    → (j : ℕ) (token : SeatKnowledge) → get_elem? (set tokens id new) j ≡ some token → Fits words token
fits-learned words tokens id new others mine j token at =
    ⊎_elim
    (λ (x : (j ≡ id) × (new ≡ token)). subst (Fits words) x.1 mine)
    (λ (x : (j ≢ id) × (get_elem? tokens j ≡ some token)). others j token x.0 x.1)
    (at_set tokens id j new token at)

-- a token learns, and no word changes
pub learns : (harts : ℕ) (words : List ℕ) (tokens : List SeatKnowledge) (id : ℕ) (old new : SeatKnowledge) → Stands harts words tokens → get_elem? tokens id ≡ some old
    → ((hart : ℕ) → counted hart new ≡ counted hart old) → Fits words new
    → Stands harts words (set tokens id new)
learns harts words tokens id old new stands at same mine = record {
  places = stands.places;
  few = stands.few;
  fits = fits-learned words tokens id new (λ j token n e. stands.fits j token e) mine;
  once = λ hart. let t = total-set (counted hart) tokens id old new at in let s = same hart in let o = stands.once hart in omega (arith, t, s, o);
  none = λ hart beyond. let t = total-set (counted hart) tokens id old new at in let s = same hart in let o = stands.none hart beyond in omega (arith, t, s, o);
  rest = stands.rest;
  stop = stands.stop;
}

-- a word becomes more, and a token with it
pub grows : (harts : ℕ) (words : List ℕ) (tokens : List SeatKnowledge) (id : ℕ) (old new : SeatKnowledge) (i value : ℕ) → Stands harts words tokens
    → get_elem? tokens id ≡ some old
    → ((hart : ℕ) → counted hart new ≡ counted hart old) → i < length words → slice_index words i ≤ value → Fits (set words i value) new
    → ((j : ℕ) (token : SeatKnowledge) → j ≢ id → get_elem? tokens j ≡ some token → counted i token ≡ 0)
    → (i ≡ stop_word → value ≡ 1) → (i ≢ stop_word → i < harts)
    → Stands harts (set words i value) (set tokens id new)
grows harts words tokens id old new i value stands at same there more mine others at_stop at_hart =
    let stops : slice_index words stop_word ≡ 1 → slice_index (set words i value) stop_word ≡ 1 = λ was.
    dite (ℕ_discrete stop_word i)
    (λ e. ap (slice_index (set words i value)) e ∙ get_or-set_same words i value 0 there ∙ at_stop (sym e))
    (λ n. get_or-set_other words i stop_word value 0 n ∙ was) in record {
      places = length-set words i value ∙ stands.places;
      few = stands.few;
      fits = fits-learned (set words i value) tokens id new
          (λ j token n e. let f = stands.fits j token e in record {
            counts = counts-set words i value token.counts (others j token n e) f.counts;
            sights = sights-set words i value token.sights there more f.sights;
            asked = λ a. stops (f.asked a);
            heard = λ a. stops (f.heard a);
          })
          mine;
      once = λ hart. let t = total-set (counted hart) tokens id old new at in let s = same hart in let o = stands.once hart in omega (arith, t, s, o);
      none = λ hart beyond. let t = total-set (counted hart) tokens id old new at in let s = same hart in let o = stands.none hart beyond in
          omega (arith, t, s, o);
      rest = λ hart beyond below.
          dite (ℕ_discrete hart i)
          (λ e. absurd (let h = at_hart (λ s. let q = e in let r = s in omega (arith)) in omega (arith)))
          (λ n. get_or-set_other words i hart value 0 n ∙ stands.rest hart beyond below);
      stop = dite (ℕ_discrete stop_word i)
          (λ e. let v = at_stop (sym e) in let h = ap (slice_index (set words i value)) e ∙ get_or-set_same words i value 0 there in omega (arith, v, h))
          (λ n. let h = get_or-set_other words i stop_word value 0 n in let s = stands.stop in omega (arith, h, s));
    }

-- a number that was found is not above the word
pub found-within : (words : List ℕ) (sights : List (ℕ × ℕ)) (hart : ℕ) → AreSeen words sights → last_found sights hart ≤ slice_index words hart
found-within words [] hart seen = omega (arith)
found-within words (one ∷ others) hart seen =
    dite (ℕ_discrete one.0 hart)
    (λ e. let f = last_found-here one others hart e in let w = ap (slice_index words) e in let s = seen.0 in omega (arith, f, w, s))
    (λ n. let f = last_found-apart one others hart n in let s = found-within words others hart seen.1 in omega (arith, f, s))

times-map : (hart k : ℕ) (counts : List (ℕ × ℕ)) → times hart (map (λ one. (one.0, one.1 + k)) counts) ≡ times hart counts
times-map hart k [] = refl
times-map hart k (one ∷ others) = ap (λ n. (if one.0 == hart then 1 else 0) + n) (times-map hart k others)

-- one word is read and stays
read-stands : (harts : ℕ) (words : List ℕ) (tokens : List SeatKnowledge) (i : ℕ) → Stands harts words tokens → Stands harts (set words i (slice_index words i)) tokens
read-stands harts words tokens i = subst (λ ws. Stands harts ws tokens) (sym (set-get_or words i 0))

counts-one : (words : List ℕ) (counts : List (ℕ × ℕ)) (hart number : ℕ) → counts ≡ (hart, number) ∷ [] → AreWords words counts → slice_index words hart ≡ number
counts-one words counts hart number is a = (subst (AreWords words) is a).0

one-counted : (counts : List (ℕ × ℕ)) (hart number : ℕ) → counts ≡ (hart, number) ∷ [] → times hart counts ≡ 1
one-counted counts hart number is = ap (times hart) is ∙ times-here hart (hart, number) [] refl

added-fits : (words : List ℕ) (token : SeatKnowledge) (hart number k : ℕ) → token.counts ≡ (hart, number) ∷ [] → hart < length words → hart ≢ stop_word
    → Fits words token → Fits (set words hart (number + k)) (added k token)
added-fits words token hart number k is there apart f =
    let stops : slice_index words stop_word ≡ 1 → slice_index (set words hart (number + k)) stop_word ≡ 1 = λ was. get_or-set_other words hart stop_word
    (number + k) 0 (λ e. apart (sym e)) ∙ was in
    let was = counts-one words token.counts hart number is f.counts in record {
      counts = subst (λ (counts : List (ℕ × ℕ)). AreWords (set words hart (number + k)) (map (λ one. (one.0, one.1 + k)) counts)) (sym is)
          (get_or-set_same words hart (number + k) 0 there, tt);
      sights = sights-set words hart (number + k) token.sights there (omega (arith, was)) f.sights;
      asked = λ a. stops (f.asked a);
      heard = λ a. stops (f.heard a);
    }

added-stands : (harts : ℕ) (words : List ℕ) (tokens : List SeatKnowledge) (id : ℕ) (old : SeatKnowledge) (hart number k : ℕ) → old.counts ≡ (hart, number) ∷ []
    → hart < most_harts → Stands harts words tokens → get_elem? tokens id ≡ some old
    → Stands harts (set words hart (number + k)) (set tokens id (added k old))
added-stands harts words tokens id old hart number k is below stands at =
    let f = stands.fits id old at in
    let was = counts-one words old.counts hart number is f.counts in
    let one = one-counted old.counts hart number is in
    let there : hart < length words = let p = stands.places in omega (arith) in
    let apart : hart ≢ stop_word = λ e. let q = e in omega (arith) in
    grows harts words tokens id old (added k old) hart (number + k) stands at (λ h. times-map h k old.counts) there (omega (arith, was))
    (added-fits words old hart number k is there apart f)
    (λ j token n e. let t = total-two (counted hart) tokens id j old token at e n in let o = stands.once hart in omega (arith, t, o, one))
    (λ e. absurd (apart e))
    (λ _. lt_of_not-le (λ beyond. let t = total-one (counted hart) tokens id old at in let z = stands.none hart beyond in omega (arith, t, z, one)))

no-wrap : (n number k : ℕ) → n ≡ number → number + k ≤ most_number → (n + k) % 2 ^ 64 ≡ number + k
no-wrap n number k is room = omega (arith)

module _ {S : Type 0} (harts slots id : ℕ) (me : Me S SeatKnowledge) where
  -- add to a seat's word
  pub adds : (hart number k : ℕ) → me.0.counts ≡ (hart, number) ∷ [] → hart < most_harts → number + k ≤ most_number
      → Allows (λ s. Stands harts s.words s.views) slots id me hart (λ n. (n + k) % 2 ^ 64) (Adds (step slots hart k 0 none) me)
  adds hart number k is below room s stands len at bound =
      let was = counts-one s.words me.0.counts hart number is (stands.fits id me.0 at).counts in (
        added k me.0,
        keeps,
        tt,
        subst (λ n. Stands harts (set s.words hart n) (set s.views id (added k me.0))) (sym (no-wrap (slice_index s.words hart) number k was room))
            (added-stands harts s.words s.views id me.0 hart number k is below stands at),
        refl,
      )

  -- look at a seat's word
  pub looks : (hart : ℕ) → Allows (λ s. Stands harts s.words s.views) slots id me hart (λ n. n) (Looks (step slots hart 0 0 none) me)
  looks hart s stands len at bound =
      let n = slice_index s.words hart in
      let f = stands.fits id me.0 at in
      let new = looked hart n me.0 in (
        new,
        keeps,
        tt,
        read-stands harts s.words (set s.views id new) hart (learns harts s.words s.views id me.0 new stands at (λ _. refl)
            (record { counts = f.counts; sights = (omega (arith), f.sights); asked = f.asked; heard = f.heard })),
        (refl, found-within s.words me.0.sights hart f.sights),
      )

  -- ask for a stop
  pub asks : Allows (λ s. Stands harts s.words s.views) slots id me stop_word (λ _. 1) (λ _. Asks (step slots stop_word 1 0 none) me 1)
  asks s stands len at bound =
      let f = stands.fits id me.0 at in
      let there : stop_word < length s.words = let p = stands.places in omega (arith) in
      let set_now = get_or-set_same s.words stop_word 1 0 there in
      let no_hart : (token : SeatKnowledge) (j : ℕ) → get_elem? s.views j ≡ some token → counted stop_word token ≡ 0 = λ token j e. let t =
      total-one (counted stop_word) s.views j token e in let z = stands.none stop_word stands.few in omega (arith, t, z) in
      let more : slice_index s.words stop_word ≤ 1 = stands.stop in (
        asked me.0,
        keeps,
        tt,
        grows harts s.words s.views id me.0 (asked me.0) stop_word 1 stands at (λ _. refl) there more
            (record {
              counts = counts-set s.words stop_word 1 me.0.counts (no_hart me.0 id at) f.counts;
              sights = sights-set s.words stop_word 1 me.0.sights there more f.sights;
              asked = λ _. set_now;
              heard = λ _. set_now;
            })
            (λ j token n e. no_hart token j e) (λ _. refl) (λ n. absurd (n refl)),
        refl,
      )

  -- look at the stop word
  pub hears : Allows (λ s. Stands harts s.words s.views) slots id me stop_word (λ n. n) (Hears (step slots stop_word 0 0 none) me)
  hears s stands len at bound =
      let n = slice_index s.words stop_word in
      let f = stands.fits id me.0 at in
      let new = heard n me.0 in (
        new,
        keeps,
        tt,
        read-stands harts s.words (set s.views id new) stop_word (learns harts s.words s.views id me.0 new stands at (λ _. refl)
            (record { counts = f.counts; sights = f.sights; asked = f.asked; heard = heard-so n me.0.heard stands.stop f.heard })),
        (refl, stands.stop, stop-so n me.0.asked me.0.heard f.asked f.heard),
      )
    where
      heard-so : (n : ℕ) (was : Bool) → n ≤ 1 → (was ≡ true → n ≡ 1) → (if n == 0 then was else true) ≡ true → n ≡ 1
      heard-so n was few before is = dite (ℕ_discrete n 0) (λ e. before (sym (ap (λ (b : Bool). if b then was else true) (eq-eqb n 0 e))
          ∙ is)) (λ ne. omega (arith, few, ne))

      stop-so : (n : ℕ) (asks_it hears_it : Bool) → (asks_it ≡ true → n ≡ 1) → (hears_it ≡ true → n ≡ 1) → (if asks_it then true else hears_it) ≡ true → n ≡ 1
      stop-so n true hears_it a h e = a refl
      stop-so n false hears_it a h e = h e
