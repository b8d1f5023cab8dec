use Rattle.std.proofs.Common.{Ok, refl, ap, ◌∙◌, arith}
use Rattle.std.proofs.lemmas.Result.{err_from_is_err_and}
use Rattle.source.specs.Content.{meaning}
use Rattle.message.specs.Sameness.{SourceBytes}
use Rattle.draft.proofs.Deciding.{form_after, tells, compared_ok, compared_first, compared_second, as_much, area_unbegun, size_unbegun, area_begun, size_begun, cleared_twice}
use Rattle.draft.proofs.same_message.Goals as goal

pub returns-in_err-load : goal.returns-in_err-load
returns-in_err-load g c =
    let p = err_from_is_err_and c.from_residual.result c.from_residual.ensures.1 in
    let h = c.in_err-load.ensures in
    rw (p.1, p.2) (record {
      same_first = h.same;
      same_second = refl;
      outcome = compared_first _ _ _ h.outcome;
      decides = tt;
      one_area = h.area;
      one_size = h.size;
      other_area = area_unbegun _ _ _ _ h.outcome;
      other_size = size_unbegun _ _ _ _ h.outcome;
      bytes = h.bytes;
      rows = h.rows;
    })

pub returns-in_err-load-2 : goal.returns-in_err-load-2
returns-in_err-load-2 g c =
    let p = err_from_is_err_and c.from_residual-in_err-load-2.result c.from_residual-in_err-load-2.ensures.1 in
    let h = c.in_ok-load.ensures in
    let k = c.in_err-load-2.ensures in
    let w = as_much c.args.work.bytes.now c.args.work.rows.now in
    let o = rw w at (rw (h.bytes, h.rows) at k.outcome) in
    let a = rw w at (rw (h.bytes, h.rows) at k.area) in
    let z = rw w at (rw (h.bytes, h.rows) at k.size) in
    rw (p.1, p.2) (record {
      same_first = h.same;
      same_second = k.same;
      outcome = compared_second _ _ _ _ h.outcome o;
      decides = tt;
      one_area = h.area;
      one_size = h.size;
      other_area = area_begun _ _ _ _ _ h.outcome a;
      other_size = size_begun _ _ _ _ _ h.outcome z;
      bytes = cleared_twice _ _ _ _ h.bytes k.bytes;
      rows = cleared_twice _ _ _ _ h.rows k.rows;
    })

pub returns : goal.returns
returns g c =
    let h = c.in_ok-load.ensures in
    let k = c.in_ok-load-2.ensures in
    let w = as_much c.args.work.bytes.now c.args.work.rows.now in
    let o = rw w at (rw (h.bytes, h.rows) at k.outcome) in
    let a = rw w at (rw (h.bytes, h.rows) at k.area) in
    let z = rw w at (rw (h.bytes, h.rows) at k.size) in
    let f = form_after _ _ _ _ _ _ h.outcome h.area h.size in
    let q = form_after _ _ _ _ _ _ o a z in
    let e = rw (c.form.ensures, c.form-2.ensures) at c.eq.ensures in
    let sx : SourceBytes (meaning (g.A.Source.content c.args.first.now)) = (c.len-octets.ensures.octets, omega arith) in
    let sy : SourceBytes (meaning (g.B.Source.content c.args.second.now)) = (c.len-octets2.ensures.octets, omega arith) in
    record {
      same_first = h.same;
      same_second = k.same;
      outcome = ap Ok e ∙ compared_ok _ _ _ _ _ _ _ _ f q;
      decides = rw e (tells _ _ _ _ _ _ _ _ sx sy f q);
      one_area = h.area;
      one_size = h.size;
      other_area = area_begun _ _ _ _ _ h.outcome a;
      other_size = size_begun _ _ _ _ _ h.outcome z;
      bytes = cleared_twice _ _ _ _ h.bytes k.bytes;
      rows = cleared_twice _ _ _ _ h.rows k.rows;
    }
