-- What is said of a last write.
use Rattle.std.proofs.Common.{◌≡◌, ◌∙◌, ℕ, refl, sym, ap, List, Option, Some, None}
use Rattle.std.specs.Prelude.{option_map, slice_get, take, unwrap_or}
use Rattle.multi_hart.specs.Run.{State, hart_at, run, turn}
use Rattle.debugger_blame.specs.LastWrites.{Blames, held}
use Rattle.debugger_blame.specs.declared.writes.Write.{Write}
use Rattle.hrv_engines.specs.Blame.{last_text, word_text, write_at}

-- writes with the same parts are the same
made : (t h p b a h' p' b' a' : ℕ) → h ≡ h' → p ≡ p' → b ≡ b' → a ≡ a'
    → (let one : Write = record { turn = t; hart = h; pc = p; before = b; after = a } in one) ≡ (let one : Write = record {
      turn = t;
      hart = h';
      pc =
          p';
      before = b';
      after = a';
    } in one)
made t h p b a h' p' b' a' hs ps bs as' = rw (hs, ps, bs, as') refl

pub last_told : (begin : State) (turns : List ℕ) (word : ℕ) (last : Option Write) → Blames begin turns word last
    → last_text begin.text last ≡ word_text begin turns word
last_told begin turns word None blames = sym (ap (λ o. last_text begin.text (option_map (write_at begin turns word) o)) blames)
last_told begin turns word (Some w) blames =
    let before : State = run begin (take w.turn turns) in
    let hart : w.hart ≡ unwrap_or (slice_get turns w.turn) 0 = sym (ap (λ o. unwrap_or o 0) blames.hart_is) in
    let same : w ≡ write_at begin turns word w.turn =
    made w.turn w.hart w.pc w.before w.after _ _ _ _ hart (blames.pc_is ∙ ap (λ h. (hart_at before h).pc) hart) blames.before_is
    (blames.after_is ∙ ap (λ h. held (turn before h) word) hart) in
    ap (λ o. last_text begin.text (Some o)) same ∙ sym (ap (λ o. last_text begin.text (option_map (write_at begin turns word) o)) blames.is_last)
