use Rattle.std.proofs.Common.{sym, ap, ◌∙◌, arith}
use Rattle.std.proofs.lemmas.List.{drop_all}
use Rattle.source.specs.Content.{meaning}
use Rattle.index.specs.Keys.{key_of}
use Rattle.pen.proofs.Pens.{leads_on, leads_end}
use Rattle.listform.specs.Forms.{rows_form, number_behind}
use Rattle.listform.proofs.RowForms.{fit_at, rows_more, behind_more, after_key_above}
use Rattle.listform.proofs.rows.write_rows_from.Goals as goal

pub loop-row-preserved : goal.loop-row-preserved
loop-row-preserved g c =
    let i = c.loop-row.invariant in
    let q = c.write_row.ensures in
    let xs = meaning (g.S.Source.content c.args.source.now) in (
      q.same ∙ i.0,
      omega (arith, c.after_key-number.ensures, after_key_above (key_of c.row-item.result.key) c.loop-row.number),
      (fit_at xs c.args.rows.now c.loop-row.row-index c.row-item.result c.loop-row-test.true c.row-item.is i.2).1,
      leads_on i.3 (rows_more xs c.args.rows.now c.loop-row.row-index c.loop-row.number _ c.row-item.result c.loop-row-test.true c.row-item.is c.after_key-number.ensures)
          (rw i.0 at q.value),
      i.4 ∙ behind_more c.args.rows.now c.loop-row.row-index c.loop-row.number _ c.row-item.result c.loop-row-test.true c.row-item.is c.after_key-number.ensures,
    )

pub returns : goal.returns
returns g c =
    let i = c.loop-row.invariant in
    let e = drop_all _ _ c.loop-row-test.false in
    record {
      same = i.0;
      value = leads_end i.3 (ap (rows_form _ c.loop-row.number) e);
      next = sym (i.4 ∙ ap (number_behind c.loop-row.number) e);
      small = omega arith;
    }
