use Rattle.std.proofs.Common.{◌∙◌, ◌≡◌, ◌≤◌, Option, Some, None, ap, refl, length, option_map, arith}
use Rattle.std.specs.Prelude.{ℕ, slice_get}
use Rattle.std.proofs.lemmas.Option.{slice_get-map}
use Rattle.std.proofs.lemmas.List.{length-map}
use Rattle.memory.specs.Access.{most_words, fetched}
use Rattle.rv_encoding.specs.Decoding.{decoded}
use Rattle.hart_core.specs.Meanings.{insn_of, word_meaning}
use Rattle.hart_core.proofs.Meant.{insn_of-meaning_of}
use Rattle.multi_hart.proofs.Turning.{fetched-turned, lent}
use Rattle.multi_hart.proofs.machines.meaning_at.Goals as goal

-- the instruction that a word means, where there is a word
of-word : (word : Option ℕ) → option_map insn_of (option_map word_meaning word) ≡ option_map decoded word
of-word None = refl
of-word (Some word) = ap Some (insn_of-meaning_of (decoded word))

pub returns : goal.returns
returns c text same =
    let meanings = c.args.meanings.now in
    let offset = c.offset_in_text.result in
    let fits : length text ≤ most_words = omega (arith, c.requires, ap length same, length-map text word_meaning) in
    let place = fetched-turned text c.args.pc offset fits c.offset_in_text.ensures.behind c.offset_in_text.ensures.before in
    let got : slice_get meanings c.place_at.result ≡ option_map word_meaning (fetched text c.args.pc) =
    rw (c.place_at.ensures, same) (slice_get-map word_meaning text _ ∙ ap (option_map word_meaning) place) in
    lent insn_of meanings c.place_at.result c.get.result c.get.ensures.lookup ∙ ap (option_map insn_of) got ∙ of-word (fetched text c.args.pc)
