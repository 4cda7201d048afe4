-- `glyphs::fd_select_in` meets its contract: each way out is a case of `listed_answer`.
use Rattle.std.proofs.Common.{Some, length, [], ap, arith, refl, sym, ℕ, ◌∙◌, ◌∷◌}
use Rattle.charset.specs.ListedLaws.{list_length}
use Rattle.charset.specs.FdSelect.{fd_select_at}
use Rattle.charset.specs.FdPlaces.{select_at, fd_of}
use Rattle.charset.specs.FdFound.{refused_is, found-good, found_fds}
use Rattle.format_cases.specs.GlyphsLaws.{listed_refused, listed_many, listed_found}
use Rattle.format_cases.proofs.glyphs.fd_select_in.Goals as goal

pub returns-then-n-gt2000 : goal.returns-then-n-gt2000
returns-then-n-gt2000 c =
    let a = c.args in
    let f = sym c.read_fd_select.ensures ∙ c.in-Ok.is in
    sym (listed_many 1 _ _ (found_fds a.font.now a.at a.n _ f) a.n (list_length (fd_of a.font.now c.in-Ok.s) 0 a.n) c.if-n-gt2000.true)

pub put_fds-requires : goal.put_fds-requires
put_fds-requires c =
    let a = c.args in
    (found-good a.font.now a.at a.n _ (sym c.read_fd_select.ensures ∙ c.in-Ok.is), c.requires, (let e = ap length c.one-answer.ensures in omega (arith, e, c.if-n-gt2000.false)))

pub returns-in-Err : goal.returns-in-Err
returns-in-Err c =
    let a = c.args in
    ap Some (c.one.ensures ∙ ap (λ (n : ℕ). n ∷ []) c.number.ensures) ∙ sym (listed_refused 1 _ _ (refused_is (select_at a.font.now a.at a.n) (fd_select_at a.font.now a.at a.n) _ (sym c.read_fd_select.ensures ∙ c.in-Err.is)))

pub returns-else-n-gt2000 : goal.returns-else-n-gt2000
returns-else-n-gt2000 c =
    let a = c.args in
    let f = sym c.read_fd_select.ensures ∙ c.in-Ok.is in
    ap Some (rw (c.put_fds.ensures, c.one-answer.ensures) refl) ∙ sym (listed_found 1 _ _ (found_fds a.font.now a.at a.n _ f) a.n (list_length (fd_of a.font.now c.in-Ok.s) 0 a.n) c.if-n-gt2000.false)
