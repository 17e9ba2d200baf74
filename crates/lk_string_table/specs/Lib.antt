pub mod StringTables
