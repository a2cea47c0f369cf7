use Rattle.std.proofs.Common.{◌++◌, codes}
use Rattle.hrv_engines.specs.Dump.{newline}
use Rattle.hrv_engines.proofs.Verdicts.{grown}
use Rattle.hrv_engines.proofs.verify.push_made_by.Goals as goal

pub returns : goal.returns
returns c =
    let start = c.args.text.now.items in
    let first = c.extend_from_slice.new.self.items in
    let second = c.extend_from_slice-2.new.self.items in
    let third = c.extend_from_slice-3.new.self.items in
    let fourth = c.extend_from_slice-4.new.self.items in
    let made = codes "made by version " in
    let version = c.args.version.now in
    let between = codes " logic " in
    let logic = c.args.logic.now in
    grown start fourth c.push.new.self.items (made ++ version ++ between ++ logic) newline
    (grown start third fourth (made ++ version ++ between) logic
    (grown start second third (made ++ version) between
    (grown start first second made version c.in_ok-extend_from_slice.ensures.items c.in_ok-extend_from_slice-2.ensures.items)
    c.in_ok-extend_from_slice-3.ensures.items) c.in_ok-extend_from_slice-4.ensures.items) c.in_ok-push.ensures.items
