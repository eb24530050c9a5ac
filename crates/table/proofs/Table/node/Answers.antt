-- `table::Table::node` meets its contract: a node of a table that was read.
use Rattle.table.proofs.Measures.{flag_test, words_of_lem}
use Rattle.laws.specs.RightSizes.{right_of}
use lib.Dec.{ltb}
use mathlib.Core.Path.{◌∙◌, ap}
use native.Mathlib.Omega.{arith}
use Rattle.table.proofs.Table.node.Goals as goal

pub kind_of-requires : goal.kind_of-requires
kind_of-requires c = record { within = record { sizes_right = c.requires.all_sized.sized.sizes_right; inside = c.requires.k_bound }; k_value = (c.requires.all_sized.sized.each c.args.k c.requires.k_bound).whole }

pub sized-requires : goal.sized-requires
sized-requires c =
    let h = right_of c.args.bytes.now c.requires.all_sized.sized.sizes_right in omega (arith, c.requires.all_sized.room, c.requires.k_bound)

pub returns : goal.returns
returns c =
    let w = words_of_lem c.args.bytes.now c.args.prepared.now c.args.k (c.requires.all_sized.sized.each c.args.k c.requires.k_bound) in
    let s = c.sized.ensures in
    record {
      size_is = s.size_is ∙ w.size_is;
      source_is = s.source_is ∙ w.source_is;
      sheet_is = s.sheet_is ∙ w.sheet_is;
      match_is = s.match_is ∙ ap (ltb 0) w.match_is ∙ flag_test _;
      shows = rw s.kind_is c.kind_of.ensures;
    }
