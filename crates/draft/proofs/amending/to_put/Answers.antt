use Rattle.draft.proofs.Puts.{page_contents, held_by_target, put_means}
use Rattle.draft.proofs.amending.to_put.Goals as goal

pub returns-in-CodePage : goal.returns-in-CodePage
returns-in-CodePage c ys i k w e =
    let is = c.in-CodePage.is in
    let f = rw is at e in
    let q = page_contents ys k f in
    rw is (record { page = rw (← q) f; own = record { slot = tt; listing = tt }; rows = tt; attachments = tt })

pub returns-in_default : goal.returns-in_default
returns-in_default c ys i k w e =
    let n = c.in_default.not-CodePage in
    rw (held_by_target c.args.target c.args.attribute k c.args.attribute.rule n)
    (c.to_target.ensures ys _ (put_means ys c.args.target i c.args.attribute k w n e))
