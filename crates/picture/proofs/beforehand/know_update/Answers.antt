use Rattle.picture.proofs.Tables.{one_more_known}
use Rattle.picture.proofs.beforehand.know_update.Goals as goal

pub returns-clause-known : goal.returns-clause-known
returns-clause-known g c =
    one_more_known c.args.scene.now.funcs.now c.args.scene.now.pictures.now c.args.known.now.items c.push.new.self.items c.in_ok-one.one
    c.requires.known c.in_ok-one.ensures.known c.in_ok-push.ensures.items
