use Rattle.std.proofs.Common.{All, Some, rules, sym, ap, ◌∙◌, subst}
use Rattle.std.proofs.lemmas.List.Elements.{All-pop, All-push}
use Rattle.board.specs.Closing.{SawNoMore}
use Rattle.board.specs.Tokens.{name_of, IsGlanceOf}
use Rattle.board.proofs.boards.Closing.take_glances.Goals as goal

pub take_glance-requires : goal.take_glance-requires
take_glance-requires c =
    let i = c.loop-glance.invariant in
    let here = All-pop (IsGlanceOf (name_of c.args.self.now.board)) c.loop-glance.glances.items c.pop.new.self.items (Some c.in-Some.glance)
    c.in-Some.ensures.items i.1 in
    here.1 ∙ ap name_of (sym i.0)

pub loop-glance-preserved : goal.loop-glance-preserved
loop-glance-preserved c =
    let i = c.loop-glance.invariant in
    let items = c.in-Some.ensures.items in
    let here = All-pop (IsGlanceOf (name_of c.args.self.now.board)) c.loop-glance.glances.items c.pop.new.self.items (Some c.in-Some.glance) items i.1 in
    let took = c.take_glance.ensures in (
      took.board ∙ i.0,
      here.0,
      λ numbers ends.
          let now = took.known numbers ends in
          let before = i.2 numbers now.0 in (
            before.0,
            λ rest. before.1 (subst (All (SawNoMore numbers)) (sym items) (All-push (SawNoMore numbers) c.pop.new.self.items c.in-Some.glance rest
                now.1)),
          ),
    )

pub returns-clause-known : goal.returns-clause-known
returns-clause-known c = λ numbers ends. let before = c.loop-glance.invariant.2 numbers ends in (before.0, before.1 (search rules))
