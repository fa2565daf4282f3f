-- `search::search` meets its contract: the case's refusal, or what the search of an admitted case gives. Assumes nothing.
use Rattle.std.proofs.lemmas.Result.{err_from_is_err_and}
use Rattle.reading.proofs.Read.{case_refused}
use Rattle.reading.proofs.Known.{known}
use Rattle.search.proofs.Outcomes.{searched_refused, searched_read}
use Rattle.search.proofs.search.Goals as goal

pub returns-in_err-case : goal.returns-in_err-case
returns-in_err-case c =
    let p = err_from_is_err_and c.from_residual.result c.from_residual.ensures.1 in
    rw (p.1, p.2) (searched_refused _ _ _ _ (case_refused _ _ c.in_err-case.ensures.refused))

pub returns : goal.returns
returns c =
    rw (← c.in_ok-case.ensures.read)
    (searched_read _ _ _ c.search_admitted.result _ _ (known _ _ c.in_ok-case.case.admitted).passed c.search_admitted.ensures)
