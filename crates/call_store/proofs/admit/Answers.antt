-- `call_store::admit` meets its contract: the state is laid out and judged, and then the store that is lent.
use Rattle.call_store.proofs.AdmitLaws.{not-formed, formed-taken}
use Rattle.call_store.proofs.admit.Goals as goal

pub returns-then-not-well_formed : goal.returns-then-not-well_formed
returns-then-not-well_formed c =
    let a = c.args in
    not-formed a.plan a.tape.now a.state _ c.well_formed-2.result c.well_formed-2.ensures c.lay_state.ensures.words_after a.store.now c.if-not-well_formed.true

pub returns : goal.returns
returns c =
    let a = c.args in
    formed-taken a.plan a.tape.now a.state _ c.well_formed-2.result c.well_formed-2.ensures c.lay_state.ensures.words_after a.store.now c.if-not-well_formed.false _ _ c.take_in.ensures
