mod Counting
mod Joining
mod LastBegun
mod SeriesRead
mod Before
