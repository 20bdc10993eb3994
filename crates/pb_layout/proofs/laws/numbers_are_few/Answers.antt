use Rattle.pb_layout.proofs.KeptLists.{side_rounds_numbers, side_numbers_few, numbers_few, region_numbers_few}
use Rattle.pb_layout.proofs.laws.numbers_are_few.Goals as goal

pub returns-clause-rounds : goal.returns-clause-rounds
returns-clause-rounds c = side_rounds_numbers

pub returns-clause-side : goal.returns-clause-side
returns-clause-side c = side_numbers_few

pub returns-clause-all : goal.returns-clause-all
returns-clause-all c = numbers_few

pub returns-clause-region : goal.returns-clause-region
returns-clause-region c = region_numbers_few
