-- The numbers of the choices in the tables.
pub use Rattle.stored_tables.specs.Numbers.{choice_number, choice_of, ChoiceNumbersLaw}
