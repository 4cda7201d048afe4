-- `of_recoded` meets its contract: what is written back stands behind a 1.
use Rattle.std.proofs.Common.{List, ap, arith, Err, rules, ℕ, ◌∙◌, ◌∷◌}
use Rattle.octets.specs.OutLaws.{writes_lent}
use Rattle.charstring.specs.Token.{lookup}
use Rattle.charstring.specs.Answers.{placed}
use Rattle.cases.specs.AnswersLaws.{wrote-front}
use Rattle.cases.specs.ReportLaws.{wrote_counts}
use Rattle.charstring_cases.specs.StreamLaws.{encode-short, recoded_writes, recoded_cut, recoded_full}
use Rattle.charstring_cases.proofs.of_recoded.Goals as goal

pub slice_bounds-body-end : goal.slice_bounds-body-end
slice_bounds-body-end c = let s = encode-short (lookup c.args.pairs.now) c.args.code.now (λ i. (c.type_inv.code i).fits) in (wrote_counts (writes_lent (recoded_writes c.recode.ensures c.in-Ok.is).0 (search rules)) (omega (arith, s, c.requires))).0

pub slice_bounds-copy-end : goal.slice_bounds-copy-end
slice_bounds-copy-end c = let s = encode-short (lookup c.args.pairs.now) c.args.code.now (λ i. (c.type_inv.code i).fits) in (wrote_counts (writes_lent (recoded_writes c.recode.ensures c.in-Ok.is).0 (search rules)) (omega (arith, s, c.requires))).1

pub returns-in-Ok : goal.returns-in-Ok
returns-in-Ok c =
    let d = recoded_writes c.recode.ensures c.in-Ok.is in
    rw (c.copy.ensures.0, c.one-answer.ensures) (ap (λ (l : List ℕ). 1 ∷ l) (wrote-front (writes_lent d.0 (search rules))) ∙ d.1)

pub returns-in-Err-Cut : goal.returns-in-Err-Cut
returns-in-Err-Cut c = c.one.ensures ∙ recoded_cut _ _ _ _ c.recode.ensures.recodes (ap (placed _) (c.in-Err-Cut.is ∙ ap Err c.in-Err-Cut.field-0-is))

pub returns-in-Err-Full : goal.returns-in-Err-Full
returns-in-Err-Full c =
    let a = c.args in
    let s = encode-short (lookup a.pairs.now) a.code.now (λ i. (c.type_inv.code i).fits) in
    let f = recoded_full _ _ _ _ c.recode.ensures.recodes (ap (placed _) (c.in-Err-Full.is ∙ ap Err c.in-Err-Full.field-0-is)) in
    absurd (let y : ⊥ = omega (arith, s, f, c.requires) in y)
