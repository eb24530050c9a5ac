-- `lens::read::read_text` meets its contract: the text belongs, so its path is found, and it is read by that path. Assumes nothing.

use borrow.Author.Rules.{rules}
use lib.ListN.{length, take}
use mathlib.Core.Path.{◌≡◌}
use Prim.Native.Nat.{◌-◌}
use Rattle.laws.specs.Basics.{not_both}
use Rattle.lens.specs.Emitting.{side_for}
use Rattle.lens.specs.Nodes.{node_prepared}
use Rattle.lens.specs.Parsed.{belongs_found, parsed_found}
use Rattle.lens.proofs.Finding.{lent_length, parsed_again}
use Rattle.lens.proofs.read.read_text.Goals as goal

pub automaton_for-a-requires : goal.automaton_for-a-requires
automaton_for-a-requires c = node_prepared c.requires.lens_node _

pub find_path-requires : goal.find_path-requires
find_path-requires c =
    let room = (node_prepared c.requires.lens_node (side_for c.args.mode)).room in
    let (long, marks) = c.requires.text_in_bounds in
    let n = length c.args.text.now in record { room = rw c.automaton_for-a.ensures room; marks_room = marks; path_len = lent_length n c.args.path.now long }

pub returns-then-not-find_path : goal.returns-then-not-find_path
returns-then-not-find_path c =
    let a-is = c.automaton_for-a.ensures in
    let found = belongs_found c.args.mode c.requires.lens_node a-is c.requires.fits c.find_path.ensures.found_is in
    absurd (not_both found c.if-not-find_path.true)

pub emit-requires : goal.emit-requires
emit-requires c =
    let a-is = c.automaton_for-a.ensures in
    let tells = c.find_path.ensures in
    let found = belongs_found c.args.mode c.requires.lens_node a-is c.requires.fits tells.found_is in
    let parsed = parsed_found c.args.mode c.requires.lens_node a-is c.requires.fits (tells.path_is found) in
    let n = length c.args.text.now in
    let kept : length c.find_path.new.path ≡ length (take (n - 0) c.args.path.now) = search rules in record { lens_node = c.requires.lens_node; parsed = parsed_again n c.args.path.now _ _ c.requires.text_in_bounds.0 kept parsed }
