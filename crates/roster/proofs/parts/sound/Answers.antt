-- `parts::sound` meets its contract: each list is cut where the places in use end, and past the first tests a chain of tests decides.
use Rattle.std.proofs.Common.{◌≡◌, ◌∙◌, sym, true, false, cond, leb, length, take, drop}
use borrow.Author.Tests.{le-leb}
use Rattle.spans.specs.Spans.{all_zero}
use Rattle.spans.proofs.Scans.{all_are_zero}
use Rattle.settings.specs.Settings.{valid}
use Rattle.lists.specs.Lists.{rising, all_stated}
use Rattle.roster.specs.Roster.{sound}
use Rattle.roster.proofs.Chains.{all_hold, one_fails}
use Rattle.roster.proofs.parts.sound.Goals as goal
use Rattle.roster.proofs.parts.sound.Goals.{then-rising, else-rising, then-stated, else-stated}

pub returns-then-all_are : goal.returns-then-all_are
unfolding sound
returns-then-all_are c =
    let h = c.args.held in
    let R = rising 0 (take h c.args.movers.servers.now) in
    let S = all_stated (take h c.args.movers.states.now) in
    let A = all_zero (drop h c.args.movers.servers.now) in
    let Z = all_zero (drop h c.args.movers.states.now) in
    let r : c.rising.result ≡ R = cc in
    let first : c.if-rising.value ≡ cond R S false =
    elim c.if-rising.branch [
      | then-rising w ↦ let t : R ≡ true = cc in rw t cc
      | else-rising w ↦ let t : R ≡ false = cc in rw t cc
    ] in
    let second : c.if-stated.value ≡ cond (cond R S false) A false =
    elim c.if-stated.branch [
      | then-stated w ↦
          let t : cond R S false ≡ true = cc in
          let a = all_are_zero c.split_at.result.1.now in
          rw t cc
      | else-stated w ↦ let t : cond R S false ≡ false = cc in rw t cc
    ] in
    let z : c.all_zero.result ≡ Z = cc in
    let fit-servers : leb h (length c.args.movers.servers.now) ≡ true = le-leb _ _ c.if-held-movers.false in
    let fit-states : leb h (length c.args.movers.states.now) ≡ true = le-leb _ _ c.if-held-movers-2.false in
    let few : leb h 64 ≡ true = le-leb _ _ c.if-held-gt-MOST_SERVERS.false in
    let v : valid c.args.settings ≡ true = sym c.if-not-valid.ensures in
    rw (fit-servers, fit-states, few, z) (all_hold R S A Z (valid c.args.settings) (sym second ∙ c.if-all_are.true) v)

pub returns-else-all_are : goal.returns-else-all_are
unfolding sound
returns-else-all_are c =
    let h = c.args.held in
    let R = rising 0 (take h c.args.movers.servers.now) in
    let S = all_stated (take h c.args.movers.states.now) in
    let A = all_zero (drop h c.args.movers.servers.now) in
    let Z = all_zero (drop h c.args.movers.states.now) in
    let r : c.rising.result ≡ R = cc in
    let first : c.if-rising.value ≡ cond R S false =
    elim c.if-rising.branch [
      | then-rising w ↦ let t : R ≡ true = cc in rw t cc
      | else-rising w ↦ let t : R ≡ false = cc in rw t cc
    ] in
    let second : c.if-stated.value ≡ cond (cond R S false) A false =
    elim c.if-stated.branch [
      | then-stated w ↦
          let t : cond R S false ≡ true = cc in
          let a = all_are_zero c.split_at.result.1.now in
          rw t cc
      | else-stated w ↦ let t : cond R S false ≡ false = cc in rw t cc
    ] in
    let fit-servers : leb h (length c.args.movers.servers.now) ≡ true = le-leb _ _ c.if-held-movers.false in
    let fit-states : leb h (length c.args.movers.states.now) ≡ true = le-leb _ _ c.if-held-movers-2.false in
    let few : leb h 64 ≡ true = le-leb _ _ c.if-held-gt-MOST_SERVERS.false in
    rw (fit-servers, fit-states, few, c.if-all_are.false) (one_fails R S A Z (valid c.args.settings) (sym second ∙ c.if-all_are.false))
