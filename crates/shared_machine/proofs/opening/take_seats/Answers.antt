use Rattle.std.proofs.Common.{◌≡◌, suc, ◌+◌, ◌<◌, ◌∷◌, [], Some, length, reverse, arith, sym, ap, ◌∙◌, subst}
use Rattle.std.specs.Prelude.{slice_index}
use Rattle.std.proofs.lemmas.List.{reverse-append}
use Rattle.std.proofs.lemmas.List.Elements.{All-pop}
use Rattle.board.specs.Tokens.{name_of, IsGlanceOf}
use Rattle.board.specs.Tokens as on_board
use Rattle.turn_log.specs.TurnLog.{count_of}
use Rattle.loader.specs.Loading.{machine_of}
use Rattle.shared_machine.specs.Log.{tally}
use Rattle.shared_machine.specs.Tallies.{each, hart_of, number_in, tally_in, numbers_of, tallies_of}
use Rattle.shared_machine.specs.Seats.{AreSeatsAt}
use Rattle.shared_machine.proofs.Eight.{each-index}
use Rattle.shared_machine.proofs.MadeAgain.{counted-more, counted-none, no-turns}
use Rattle.shared_machine.proofs.Seating.{shares-last, places-last, shorter}
use Rattle.shared_machine.proofs.opening.take_seats.Goals as goal

pub loop-one-init : goal.loop-one-init
loop-one-init g c =
    let log = c.args.log.now in
    let shares = c.args.parts.shares.items in
    let start = machine_of g.O.Origin.image g.O.Origin.harts in
    let none = ap length c.new-seats.ensures.items in
    record {
      shares = c.requires.shares;
      places = c.requires.places;
      as_many = c.requires.as_many;
      below = omega (arith);
      enough = c.requires.enough;
      glances = c.requires.glances;
      all = omega (arith, none);
      numbers = counted-none (numbers_of c.args.books.now) (length shares) (count_of log.turns) (λ hart beyond. (no-turns start log hart c.requires.log
          (omega (arith, beyond, c.requires.harts, c.requires.all))).0) c.requires.numbers;
      sums = counted-none (tallies_of c.args.books.now) (length shares) (tally g.O.Origin.image g.O.Origin.harts log.turns)
          (λ hart beyond. (no-turns start log hart c.requires.log (omega (arith, beyond, c.requires.harts, c.requires.all))).1) c.requires.sums;
      seats = subst (λ seats. AreSeatsAt (name_of c.args.board.now) (count_of log.turns) (tally g.O.Origin.image g.O.Origin.harts log.turns) (length shares)
          (reverse seats)) (sym c.new-seats.ensures.items) tt;
    }

pub bounds-tallies-hart : goal.bounds-tallies-hart
bounds-tallies-hart g c =
    let i = c.loop-one.invariant in
    let s = shares-last (λ hart. 0) (λ hart. 0) 0 c.loop-one.shares.items c.pop.new.self.items c.in-Some.one c.in-Some.ensures.items i.shares in
    let m = shorter c.loop-one.shares.items c.pop.new.self.items c.in-Some.one c.in-Some.ensures.items in
    let w = s.is in let few = c.requires.log.few_harts in
    omega (arith, w, m, i.below, c.requires.all, c.requires.harts, few, c.hart-hart.ensures)

pub add-requires-clause-of : goal.add-requires-clause-of
add-requires-clause-of g c =
    (places-last (name_of c.args.board.now) 0 c.loop-one.places.items c.pop-in-Some.new.self.items c.in-Some-pop.place c.in-Some-pop.ensures.items
    c.loop-one.invariant.places).1.of

pub add-requires-clause-room : goal.add-requires-clause-room
add-requires-clause-room g c =
    let p = places-last (name_of c.args.board.now) 0 c.loop-one.places.items c.pop-in-Some.new.self.items c.in-Some-pop.place c.in-Some-pop.ensures.items
    c.loop-one.invariant.places in
    let none = p.1.number in
    let few = c.requires.log.few_turns c.hart-hart.result in
    omega (arith, none, few, c.count_of-number.ensures)

pub new-requires-clause-hart : goal.new-requires-clause-hart
new-requires-clause-hart g c =
    let i = c.loop-one.invariant in
    let s = shares-last (λ hart. 0) (λ hart. 0) 0 c.loop-one.shares.items c.pop.new.self.items c.in-Some.one c.in-Some.ensures.items i.shares in
    let p = places-last (name_of c.args.board.now) 0 c.loop-one.places.items c.pop-in-Some.new.self.items c.in-Some-pop.place c.in-Some-pop.ensures.items
    i.places in
    let m = shorter c.loop-one.shares.items c.pop.new.self.items c.in-Some.one c.in-Some.ensures.items in
    let n = shorter c.loop-one.places.items c.pop-in-Some.new.self.items c.in-Some-pop.place c.in-Some-pop.ensures.items in
    c.add.ensures.hart ∙ p.1.hart ∙ (let e : 0 + length c.pop-in-Some.new.self.items ≡ 0 + length c.pop.new.self.items = omega (arith, m, n, i.as_many) in e)
    ∙ sym s.is ∙ sym c.count.ensures.shares.0

pub new-requires-clause-below : goal.new-requires-clause-below
new-requires-clause-below g c =
    let i = c.loop-one.invariant in
    let s = shares-last (λ hart. 0) (λ hart. 0) 0 c.loop-one.shares.items c.pop.new.self.items c.in-Some.one c.in-Some.ensures.items i.shares in
    let m = shorter c.loop-one.shares.items c.pop.new.self.items c.in-Some.one c.in-Some.ensures.items in
    let same = c.count.ensures.shares.0 in
    omega (arith, same, s.is, m, i.below, c.requires.all)

pub new-requires-clause-number : goal.new-requires-clause-number
new-requires-clause-number g c =
    let i = c.loop-one.invariant in
    let s = shares-last (λ hart. 0) (λ hart. 0) 0 c.loop-one.shares.items c.pop.new.self.items c.in-Some.one c.in-Some.ensures.items i.shares in
    let p = places-last (name_of c.args.board.now) 0 c.loop-one.places.items c.pop-in-Some.new.self.items c.in-Some-pop.place c.in-Some-pop.ensures.items
    i.places in
    let a = p.1.number in let b = s.number in let d = c.count.ensures.shares.1 in
    omega (arith, a, b, d, c.add.ensures.number)

pub loop-one-preserved : goal.loop-one-preserved
loop-one-preserved g c =
    let i = c.loop-one.invariant in
    let board = name_of c.args.board.now in
    let counts = count_of c.args.log.now.turns in
    let sums = tally g.O.Origin.image g.O.Origin.harts c.args.log.now.turns in
    let left = length c.pop.new.self.items in
    let s = shares-last (λ hart. 0) (λ hart. 0) 0 c.loop-one.shares.items c.pop.new.self.items c.in-Some.one c.in-Some.ensures.items i.shares in
    let p = places-last board 0 c.loop-one.places.items c.pop-in-Some.new.self.items c.in-Some-pop.place c.in-Some-pop.ensures.items i.places in
    let m = shorter c.loop-one.shares.items c.pop.new.self.items c.in-Some.one c.in-Some.ensures.items in
    let n = shorter c.loop-one.places.items c.pop-in-Some.new.self.items c.in-Some-pop.place c.in-Some-pop.ensures.items in
    let h = shorter c.loop-one.glances.items c.pop-in-Some-2.new.self.items c.in-Some-pop-2.glance c.in-Some-pop-2.ensures.items in
    let t = All-pop (IsGlanceOf board) c.loop-one.glances.items c.pop-in-Some-2.new.self.items (Some c.in-Some-pop-2.glance) c.in-Some-pop-2.ensures.items
    i.glances in
    let made = c.new.ensures in
    let longer : length c.push.new.self.items ≡ length c.loop-one.seats.items + 1 = shorter c.push.new.self.items c.loop-one.seats.items c.new.result
    c.in_ok-push.ensures.items in
    let next : length c.loop-one.shares.items ≡ suc left = omega (arith, m) in
    let which : hart_of c.in-Some.one ≡ left = (let e = s.is in omega (arith, e)) in
    let few : left < 8 = (let f = c.requires.log.few_harts in omega (arith, m, i.below, c.requires.all, c.requires.harts, f)) in
    let here : c.hart-hart.result ≡ left = c.hart-hart.ensures ∙ which in
    let number : c.count_of-number.result ≡ counts left = c.count_of-number.ensures ∙ ap counts here in
    let sum : slice_index c.args.tallies.now c.hart-hart.result ≡ sums left = ap (λ xs. slice_index xs c.hart-hart.result) c.requires.tallies
    ∙ ap (λ n. slice_index (each sums) n) here ∙ each-index sums left few in
    record {
      shares = s.front;
      places = p.0;
      as_many = omega (arith, m, n, i.as_many);
      below = omega (arith, m, i.below);
      enough = omega (arith, m, h, i.enough);
      glances = t.0;
      all = omega (arith, m, longer, i.all);
      numbers = counted-more (numbers_of c.loop-one.books) (numbers_of c.count.new.self) (length c.loop-one.shares.items) left (hart_of c.in-Some.one) counts
          _ next which few number i.numbers c.count.ensures.numbers;
      sums = counted-more (tallies_of c.loop-one.books) (tallies_of c.count.new.self) (length c.loop-one.shares.items) left (hart_of c.in-Some.one) sums _ next
          which few sum i.sums c.count.ensures.tallies;
      seats = subst (AreSeatsAt board counts sums left) (sym (ap reverse c.in_ok-push.ensures.items
          ∙ reverse-append c.loop-one.seats.items (c.new.result ∷ []))) (
            record {
              of = (subst (λ x. on_board.IsSeatOf board x) (sym made.1) c.add.ensures.of, subst (λ x. on_board.IsGlanceOf board x) (sym made.2) t.1);
              is = ap hart_of made.0 ∙ c.count.ensures.shares.0 ∙ which;
              made = ap number_in made.0 ∙ (let a = s.number in let b = c.count.ensures.shares.1 in omega (arith, a, b, number));
              tallied = ap tally_in made.0 ∙ (let a = s.tally in let b = c.count.ensures.shares.2 in omega (arith, a, b, sum));
              fresh = made.3;
            },
            subst (λ k. AreSeatsAt board counts sums k (reverse c.loop-one.seats.items)) next i.seats,
          );
    }
