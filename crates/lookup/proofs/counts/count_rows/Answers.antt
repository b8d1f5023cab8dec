use Rattle.std.proofs.Common.{length, sym, ap, ◌∙◌}
use Rattle.std.specs.Result.{result_unwrap_or}
use Rattle.std.proofs.lemmas.List.{length-map}
use Rattle.source.specs.Content.{meaning}
use Rattle.scan.proofs.Parts.{asked_within}
use Rattle.lookup.proofs.Saying.{recipients_held, table_told, table_lost}
use Rattle.lookup.proofs.counts.count_rows.Goals as goal

pub returns-in_default-clause-value : goal.returns-in_default-clause-value
returns-in_default-clause-value g c =
    let t = c.message_rows-rows.ensures in
    ap length (sym (table_lost _ c.message_rows-rows.result c.in_default.ensures)) ∙ sym (length-map _ _) ∙ ap length t.value.table

pub returns-clause-value : goal.returns-clause-value
returns-clause-value g c =
    let xs = meaning (g.S.Source.content c.args.source.now) in
    let t = c.message_rows-rows.ensures in
    let rows = c.message_rows-rows.result in
    let (ts, h) = recipients_held xs rows t.value.own.sound c.in-Some.row c.in-Some.ensures in
    c.unwrap_or.ensures ∙ ap (λ r. result_unwrap_or r 0) ((rw t.same at c.at.ensures.value) ∙ asked_within _ _ _ _ h.room)
    ∙ h.counted ∙ ap length (sym (table_told xs rows ts h.told)) ∙ sym (length-map _ _) ∙ ap length t.value.table
