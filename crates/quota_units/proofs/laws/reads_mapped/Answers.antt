use Rattle.quota_units.proofs.Reading.{reads_mapped}
use Rattle.quota_units.proofs.laws.reads_mapped.Goals as goal

pub returns : goal.returns
returns c = reads_mapped (record { replaceable = c.choices_may_be_replaced.ensures; whole = c.read_back.ensures.whole })
