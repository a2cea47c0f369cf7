-- An object that grows line by line.
use Rattle.std.proofs.Common.{vec_len, ◌≡◌, ℕ, ◌==◌, suc, false, List, [], ◌∷◌, ◌++◌, length, Option, Some, None, Ok, refl, sym, ap, subst, ◌∙◌}
use Rattle.std.proofs.lemmas.List.{append-nil}
use Rattle.std.specs.Prelude.{unwrap_or}
use Rattle.memory.specs.Access.{text_start}
use Rattle.loader.specs.Image.{ImageContents}
use Rattle.loader.specs.declared.outputs.Output.{Output}
use Rattle.assembler.specs.Judging.{Given, Item, these_items}
use Rattle.assembler.specs.Object.{Assembled, AreItems, IsObject, entry_or_first, or_new, with_given, worded}
use Rattle.assembler.specs.Products.{GivesWords}
use Rattle.assembler.specs.Building.{IsBuilt}
use Rattle.assembler.specs.declared.building.Building.{Building}

-- ---- words of items

items_append : (words others : List ℕ) (items more : List Item) → AreItems words items → AreItems others more → AreItems (words ++ others) (items ++ more)
items_append [] others [] more are rest = rest
items_append [] others (item ∷ items) more are rest = elim are [ ]
items_append (word ∷ words) others [] more are rest = elim are [ ]
items_append (word ∷ words) others (item ∷ items) more are rest = (are.0, items_append words others items more are.1 rest)

pub one_each : (words : List ℕ) (items : List Item) → AreItems words items → length words ≡ length items
one_each [] [] are = refl
one_each [] (item ∷ items) are = elim are [ ]
one_each (word ∷ words) [] are = elim are [ ]
one_each (word ∷ words) (item ∷ items) are = ap suc (one_each words items are.1)

-- ---- what a line adds

or_none : {A : Type 0} (o : Option A) → or_new o None ≡ o
or_none (Some a) = refl
or_none None = refl

-- the line's place aside
abbrev pub grown : Assembled → Given → Assembled
grown a given = record (with_given a a.here.place given) { here = a.here }

built_more : (old new : Building) (a : Assembled) (given : Given) (words : List ℕ) → IsBuilt old a → new.here ≡ old.here
    → new.words.items ≡ old.words.items ++ words → AreItems words given.items → new.bytes.items ≡ old.bytes.items ++ given.bytes
    → new.entry ≡ or_new old.entry given.entry → new.output ≡ or_new old.output given.output → IsBuilt new (grown a given)
built_more old new a given words b here is_words are is_bytes is_entry is_output = record {
  here = here ∙ b.here;
  words = subst (λ (ws : List ℕ). AreItems ws (a.items ++ given.items)) (sym is_words) (items_append old.words.items words a.items given.items b.words are);
  bytes = is_bytes ∙ ap (λ (bs : List ℕ). bs ++ given.bytes) b.bytes;
  entry = is_entry ∙ ap (λ (o : Option ℕ). or_new o given.entry) b.entry;
  output = is_output ∙ ap (λ (o : Option Output). or_new o given.output) b.output;
}

pub built_words : (old new : Building) (a : Assembled) (given : Given) (words : List ℕ) → IsBuilt old a → GivesWords words given
    → new.here ≡ old.here → new.words.items ≡ old.words.items ++ words → new.bytes ≡ old.bytes → new.entry ≡ old.entry → new.output ≡ old.output
    → IsBuilt new (grown a given)
built_words old new a given words b gives here is_words is_bytes is_entry is_output =
    subst (λ (g : Given). IsBuilt new (grown a g)) (sym gives.1)
    (built_more old new a (these_items gives.0) words b here is_words gives.2 (ap (λ v. v.items) is_bytes ∙ sym (append-nil old.bytes.items))
    (is_entry ∙ sym (or_none old.entry)) (is_output ∙ sym (or_none old.output)))

-- ---- at the end

counted : (building : Building) → length building.words.items ≡ vec_len building.words
counted building = sym building.words.ok.0

pub worded_some : (building : Building) (a : Assembled) → IsBuilt building a → (vec_len building.words == 0) ≡ false → worded a ≡ Ok a
worded_some building a b some =
    let count : (length a.items == 0) ≡ false = sym (ap (λ n. n == 0) (sym (counted building) ∙ one_each building.words.items a.items b.words)) ∙ some in
    rw count refl

entry_is : (entry : Option ℕ) → unwrap_or entry text_start ≡ entry_or_first entry
entry_is None = refl
entry_is (Some at) = refl

pub object_built : (building : Building) (a : Assembled) (object : ImageContents) (entry : ℕ) → IsBuilt building a
    → object ≡ record { entry = entry; words = building.words.items; bytes = building.bytes.items; output = building.output }
    → entry ≡ unwrap_or building.entry text_start → IsObject object a
object_built building a object entry b is start =
    subst (λ (x : ImageContents). IsObject x a) (sym is)
    (record { entry = start ∙ entry_is building.entry ∙ ap entry_or_first b.entry; words = b.words; bytes = b.bytes; output = b.output })
