-- `books::Book::take` meets its contract. Assumes nothing.
use Rattle.books.proofs.Finding.{found_here, found_nothing, found_no_more}
use Rattle.books.proofs.Book.take.Goals as goal

pub returns-in-Some : goal.returns-in-Some
returns-in-Some c = λ bytes key card_is print_is small fit. found_here key fit card_is small print_is c.requires.book_over.0 c.find.ensures c.in-Some.is

pub returns-then-none_left : goal.returns-then-none_left
returns-then-none_left c = λ bytes key card_is print_is small fit. found_no_more key fit card_is small print_is c.requires.book_over.0 c.find.ensures c.without-self.result c.in_default.is (c.none_left.ensures.none_left c.if-none_left.true) c.without-self.ensures

pub returns-else-none_left : goal.returns-else-none_left
returns-else-none_left c = λ bytes key card_is print_is small fit. found_nothing key fit card_is small print_is c.requires.book_over.0 c.find.ensures c.in_default.is
