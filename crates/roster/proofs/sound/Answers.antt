-- `sound` meets its contract: a roster has 64 places, so its parts are those of a roster wherever it is sound.
use Rattle.std.proofs.Common.{◌≡◌, ℕ, length, leb, Bool, false, rules, cond, ◌∙◌}
use Rattle.sets.proofs.Cases.{both}
use Rattle.roster.specs.Roster.{sound}
use Rattle.roster.proofs.sound.Goals as goal

-- more than 64 held fail the first test of all
pub past : (h : ℕ) (b : Bool) → cond (leb h 64) (cond (leb h 64) (cond (leb h 64) b false) false) false ≡ cond (leb h 64) b false
past h b = both (leb h 64) (λ t. rw t) (λ t. rw t)

pub returns : goal.returns
unfolding sound
returns c =
    let r = c.args.r in
    let ws : length r.servers ≡ 64 = search rules in
    let wx : length r.states ≡ 64 = search rules in
    rw (c.places.ensures.0, c.places.ensures.1, ws, wx) at c.sound.ensures ∙ past r.held _
