use Rattle.std.proofs.Common.{sym, ◌∙◌, subst}
use Rattle.source.specs.Content.{meaning}
use Rattle.pen.proofs.Pens.{◌▷◌}
use Rattle.form.specs.Targets.{remaining}
use Rattle.form.specs.Wholes.{Rendered}
use Rattle.form.proofs.Forms.{page_told, form_is, rest_rendered}
use Rattle.form.proofs.wholes.write_form.Goals as goal

pub write_message-requires-clause-fits : goal.write_message-requires-clause-fits
write_message-requires-clause-fits g c = rw (c.write_page.ensures.slice.kept, c.write_front.ensures.kept) c.requires.fits

pub write_attachments-requires-clause-fits : goal.write_attachments-requires-clause-fits
write_attachments-requires-clause-fits g c =
    rw (c.write_message.ensures.value.kept, c.write_page.ensures.slice.kept, c.write_front.ensures.kept) c.requires.fits

pub write_attachments-requires-clause-rendered : goal.write_attachments-requires-clause-rendered
write_attachments-requires-clause-rendered g c =
    let t = c.gather-rows.ensures in
    subst (λ l. Rendered (remaining (meaning l) c.gather-rows.new.at.place c.gather-rows.new.at.stage))
    (sym (c.write_message.ensures.same ∙ c.write_page.ensures.same ∙ t.same)) (rest_rendered _ _ _ _ c.requires.good t.value)

pub returns-clause-value : goal.returns-clause-value
returns-clause-value g c =
    let t = c.gather-rows.ensures in
    let p = c.write_page.ensures in
    let m = c.write_message.ensures in
    let e = form_is (meaning (g.S.Source.content c.args.source.now)) _ _ _ c.requires.good t.value in
    let (n, k, _) = page_told (meaning (g.S.Source.content c.args.source.now)) _ _ _ c.requires.good t.value in
    rw (← e)
    (c.write_front.ensures ▷ ((rw (t.same, c.as_slice-own.ensures) at p.value) n k ▷ ((rw (p.same ∙ t.same, c.as_slice-own.ensures) at m.value) ▷ (rw (m.same ∙ p.same ∙ t.same) at c.write_attachments.ensures.value))))
