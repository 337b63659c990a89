-- `probe::lagunedo_probe_wide` meets its contract: past the four tests, the round keys are those of the key.
-- Assumes nothing.
use Rattle.std.proofs.Common.{List, ℕ, sym, ap₂, ◌∙◌}
use Rattle.aes.specs.Aes.{crypted, round_keys, Nr}
use Rattle.mode.specs.Wide.{wide}
use Rattle.probe.proofs.WideLaws.{done}
use Rattle.probe.proofs.lagunedo_probe_wide.Goals as goal

pub returns : goal.returns
returns c =
    let a = c.args in
    let L = c.in-Some.ensures.cases in
    let T = c.in-Some-as_array.ensures.cases in
    done a.back a.key.now a.l.now a.t.now a.message.now (sym c.key_size.ensures ∙ c.if-not-key_size.false) L.long T.long c.if-message-lt16.false
    (c.wide.ensures
    ∙ ap₂ (λ (keys : List (List ℕ)) (n : ℕ). wide (crypted a.back keys n) c.in-Some.l.now c.in-Some-as_array.t.now a.message.now)
    c.key_setup.ensures.keys c.key_setup.ensures.rounds
    ∙ ap₂ (λ (l t : List ℕ). wide (crypted a.back (round_keys a.key.now) (Nr a.key.now)) l t a.message.now) L.same T.same)
