-- `text::translate`: spaces, then the word, then its fields.
use Rattle.std.proofs.lemmas.Result.{err_from_is_err_and}
use Rattle.text.proofs.LineLaws.{translates-blank, translates-unknown, translates-message, translates-refused}
use Rattle.text.proofs.translate.Goals as goal

pub returns-in_default : goal.returns-in_default
returns-in_default c = translates-blank _ _ c.in_default.ensures

pub returns-in_default-id_of : goal.returns-in_default-id_of
returns-in_default-id_of c =
    translates-unknown _ _ c.in-Some.ensures c.word_end-e.ensures c.in_default-id_of.ensures

pub returns-in_err-len : goal.returns-in_err-len
returns-in_err-len c =
    let p = err_from_is_err_and c.from_residual.result c.from_residual.ensures.1 in
    rw (p.1, p.2) (translates-refused _ _ c.in-Some.ensures c.word_end-e.ensures _ c.in-Some-id_of.ensures _
    c.build.auto.buf c.in_err-len.ensures)

pub returns : goal.returns
returns c = translates-message _ _ c.in-Some.ensures c.word_end-e.ensures _ c.in-Some-id_of.ensures _ _ _
    c.in_ok-len.ensures
