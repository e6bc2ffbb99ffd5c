-- No second answer satisfies a promise of this crate: what a caller learns from each contract settles the rows and flags at exit, or what is read.
use mathlib.Core.Path.{◌≡◌, sym, ap, ◌∙◌}
use Rattle.ranking.specs.declared.Pick.{Pick}
use Rattle.rows.specs.Rows.{Rows}
use Rattle.rows.specs.declared.RowView.{RowView}
use Rattle.rows.proofs.RowTable.fill.Reads.{Learnt as fill-promise}
use Rattle.rows.proofs.RowTable.clear.Reads.{Learnt as clear-promise}
use Rattle.rows.proofs.RowTable.read.Reads.{Learnt as read-promise}
use Rattle.rows.proofs.RowTable.view.Reads.{Learnt as view-promise}
use Rattle.rows.proofs.RowView.read.Reads.{Learnt as view-read-promise}

pub fill_unique : (κs : _) (a : _) (x y : _) (e e' : _) → fill-promise κs a x e → fill-promise κs a y e' → (e.0.now.servers.now ≡ e'.0.now.servers.now) × (e.0.now.flags.now ≡ e'.0.now.flags.now)
fill_unique κs a x y e e' p q = (ap (λ (r : Rows). r.servers) (p.1 ∙ sym q.1), ap (λ (r : Rows). r.flags) (p.1 ∙ sym q.1))

pub clear_unique : (κs : _) (a : _) (x y : _) (e e' : _) → clear-promise κs a x e → clear-promise κs a y e' → (e.0.now.servers.now ≡ e'.0.now.servers.now) × (e.0.now.flags.now ≡ e'.0.now.flags.now)
clear_unique κs a x y e e' p q = (ap (λ (r : Rows). r.servers) (p.1 ∙ sym q.1), ap (λ (r : Rows). r.flags) (p.1 ∙ sym q.1))

pub read_unique : (κs : _) (a : _) (x y : Pick) (e e' : _) → read-promise κs a x e → read-promise κs a y e' → x ≡ y
read_unique κs a x y e e' p q = cc

-- of rows lent to be read, the two lists
pub view_unique : (κs : _) (a : _) (x y : RowView) (e e' : _) → view-promise κs a x e → view-promise κs a y e'
    → (x.servers.now ≡ y.servers.now) × (x.flags.now ≡ y.flags.now)
view_unique κs a x y e e' p q = (cc, cc)

pub view-read_unique : (κs : _) (a : _) (x y : Pick) (e e' : _) → view-read-promise κs a x e → view-read-promise κs a y e' → x ≡ y
view-read_unique κs a x y e e' p q = cc
