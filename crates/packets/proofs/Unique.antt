-- No second reply and no second table afterwards satisfies the promise of `packet`, stated of its contract.
use Rattle.std.specs.Prelude.{Result}
use Rattle.rules.specs.declared.Refusal.{Refusal}
use Rattle.answers.specs.declared.Facts.{Facts}
use Rattle.answers.proofs.Unique.{SameReply, reply_unique}
use Rattle.packets.proofs.packet.Reads.{Learnt as packet-promise}

pub packet_unique : (κs : _) (a : _) (v v' : Result Facts Refusal) (e e' : _) → packet-promise κs a v e → packet-promise κs a v' e'
    → SameReply v v' e.1.0.now e'.1.0.now
packet_unique κs a v v' e e' p q = reply_unique v v' _ _ _ _ _ p q
