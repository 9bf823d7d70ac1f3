-- `step::owe_entry_with` meets its contract.
use Rattle.step.proofs.Entries.{body-short}
use Rattle.step.proofs.owe_entry_with.Goals as goal

pub owe-requires : goal.owe-requires
owe-requires c =
    record {
      in-open = c.requires.0.in-open;
      short = rw c.copy_body-n.ensures.front (body-short _ c.requires.0.row);
    }
