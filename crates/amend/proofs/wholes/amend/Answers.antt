use Rattle.std.proofs.Common.{sym, ◌∙◌, subst}
use Rattle.source.specs.Content.{meaning}
use Rattle.pen.proofs.Pens.{◌▷◌}
use Rattle.form.specs.Targets.{remaining}
use Rattle.form.specs.Wholes.{Rendered}
use Rattle.form.proofs.Forms.{page_told, rest_rendered}
use Rattle.amend.proofs.Amending.{form_amended}
use Rattle.amend.proofs.Moves.{touch_moved, rowing_moved, attaching_moved}
use Rattle.amend.proofs.wholes.amend.Goals as goal

pub write_changed_message-requires-clause-fits : goal.write_changed_message-requires-clause-fits
write_changed_message-requires-clause-fits g c =
    let t = c.gather-rows.ensures in
    let (n, k, _) = page_told _ _ _ _ c.requires.good t.value in
    let (α, h) = c.requires.meant in
    let p = (rw (t.same, c.as_slice-own.ensures) at c.write_changed_page.ensures.value) n k α.page h.page in
    rw (p.kept, c.write_front.ensures.kept) c.requires.fits

pub write_changed_attachments-requires-clause-fits : goal.write_changed_attachments-requires-clause-fits
write_changed_attachments-requires-clause-fits g c =
    let t = c.gather-rows.ensures in
    let (n, k, _) = page_told _ _ _ _ c.requires.good t.value in
    let (α, h) = c.requires.meant in
    let q = c.write_changed_page.ensures in
    let p = (rw (t.same, c.as_slice-own.ensures) at q.value) n k α.page h.page in
    let m = c.write_changed_message.ensures.value α.own (touch_moved q.kept h.own) α.rows (rowing_moved q.kept c.args.amendment.rows α.rows h.rows) in
    rw (m.kept, p.kept, c.write_front.ensures.kept) c.requires.fits

pub write_changed_attachments-requires-clause-rendered : goal.write_changed_attachments-requires-clause-rendered
write_changed_attachments-requires-clause-rendered g c =
    let t = c.gather-rows.ensures in
    subst (λ l. Rendered (remaining (meaning l) c.gather-rows.new.at.place c.gather-rows.new.at.stage))
    (sym (c.write_changed_message.ensures.same ∙ c.write_changed_page.ensures.same ∙ t.same)) (rest_rendered _ _ _ _ c.requires.good t.value)

pub returns-clause-value : goal.returns-clause-value
returns-clause-value g c = λ α h.
    let xs = meaning (g.S.Source.content c.args.source.now) in
    let t = c.gather-rows.ensures in
    let p = c.write_changed_page.ensures in
    let m = c.write_changed_message.ensures in
    let a = c.write_changed_attachments.ensures in
    let (n, k, _) = page_told xs _ _ _ c.requires.good t.value in
    rw (← form_amended xs _ _ _ c.requires.good t.value α)
    (c.write_front.ensures
    ▷ ((rw (t.same, c.as_slice-own.ensures) at p.value) n k α.page h.page
    ▷ ((rw (p.same ∙ t.same, c.as_slice-own.ensures) at (m.value α.own (touch_moved p.kept h.own) α.rows (rowing_moved p.kept c.args.amendment.rows α.rows h.rows)))
    ▷ (rw (m.same ∙ p.same ∙ t.same) at (a.value α.attachments (attaching_moved (m.kept ∙ p.kept) c.args.amendment.attachments α.attachments h.attachments))))))
