use Rattle.std.proofs.Common.{◌≡◌, ◌<◌, Bool, true, false, ◌⊎◌, length, Some, sym, ap, ◌∙◌, subst, inl, inr}
use Rattle.message.specs.Sameness.{holding}
use Rattle.std.proofs.lemmas.Result.{err_from_is_err_and}
use Rattle.source.specs.Content.{meaning}
use Rattle.editing.specs.Amendments as spec
use Rattle.editing.specs.Slots.{has_key}
use Rattle.property.specs.Lists.{list_limit}
use Rattle.property.proofs.Carrying.{carries_key}
use Rattle.lookup.specs.Finding.{message_in}
use Rattle.draft.proofs.Ends.{denied, upheld, target_got, property_no_target, property_unfit, property_full, property_changed, is_full, has_room}
use Rattle.draft.proofs.checking.put_property.Goals as goal
use Rattle.draft.proofs.checking.put_property.Goals.{else-not-keys-via-then-not-keys+else-keys, else-not-keys-via-else-not-keys}

pub returns-in_err-target_there : goal.returns-in_err-target_there
returns-in_err-target_there g c =
    let p = err_from_is_err_and c.from_residual.result c.from_residual.ensures.1 in
    let h = c.in_err-target_there.ensures in
    rw (p.1, p.2) (record { same = h.same; checks = property_no_target _ _ _ _ h.value })

pub returns-in_err-row : goal.returns-in_err-row
returns-in_err-row g c =
    let p = err_from_is_err_and c.from_residual-in_err-row.result c.from_residual-in_err-row.ensures.1 in
    let t = c.in_ok-target_there.ensures in
    let m = message_in (meaning (g.S.Source.content c.args.source.now)) in
    let (h, there) = target_got m c.args.target _ t.value in
    rw (p.1, p.2) (record { same = t.same; checks = property_unfit m c.args.target c.args.bytes.now h there _ c.in_err-row.ensures.judged })

pub returns-then-keys : goal.returns-then-keys
returns-then-keys g c =
    let t = c.in_ok-target_there.ensures in
    let m = message_in (meaning (g.S.Source.content c.args.source.now)) in
    let (h, there) = target_got m c.args.target _ t.value in
    let (p, is, carries) = c.in_ok-row.ensures.judged in
    let k = c.keys_of-keys.ensures in
    let (n, f) = k.value h (subst (λ x. holding (message_in (meaning x)) c.args.target ≡ Some h) (sym t.same) there) in
    let a : ◌≡◌ {A = Bool} c.keys_of-keys.result.found false = denied _ c.if-not-keys.true in
    let q : has_key p.key h.properties ≡ false = ap (λ l. has_key l h.properties) (sym (carries_key _ _ _ p carries)) ∙ sym f ∙ a in
    record {
      same = k.same ∙ t.same;
      checks = property_full m c.args.target c.args.bytes.now h there p is (is_full _ _ q (rw n at c.if-keys.true));
    }

pub returns : goal.returns
returns g c =
    let t = c.in_ok-target_there.ensures in
    let m = message_in (meaning (g.S.Source.content c.args.source.now)) in
    let (h, there) = target_got m c.args.target _ t.value in
    let (p, is, carries) = c.in_ok-row.ensures.judged in
    let k = c.keys_of-keys.ensures in
    let (n, f) = k.value h (subst (λ x. holding (message_in (meaning x)) c.args.target ≡ Some h) (sym t.same) there) in
    let e : has_key p.key h.properties ≡ c.keys_of-keys.result.found = ap (λ l. has_key l h.properties) (sym (carries_key _ _ _ p carries)) ∙ sym f in
    let room : (has_key p.key h.properties ≡ true) ⊎ (length h.properties < list_limit) =
    elim c.else-not-keys.branch [
      | else-not-keys-via-then-not-keys+else-keys w ↦ inr (rw n at w.if-keys.false)
      | else-not-keys-via-else-not-keys w ↦ let a : ◌≡◌ {A = Bool} c.keys_of-keys.result.found true = upheld _ w.if-not-keys.false in inl (e ∙ a)
    ] in
    record {
      same = k.same ∙ t.same;
      checks = (
        _,
        c.to_target.ensures c.args.bytes.now (record { slot = spec.kept; listing = spec.with_property p }) (record { slot = tt; listing = carries }),
        property_changed m c.args.target c.args.bytes.now h there p is (has_room _ _ room),
        c.in_ok-row.ensures.short,
      );
    }
